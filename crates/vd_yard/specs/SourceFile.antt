-- What is told of a file that a yard in memory hands out.
use Rattle.std.specs.Prelude.{[], ℕ, Bool, true, List, Option, Some, None}
use Rattle.vd_outside.specs.Streams.{is_empty}
use Rattle.vd_yard.specs.declared.source_file.SourceFile.{SourceFile}

-- of a file that is there its bytes, and whether no read of it is to fail
abbrev pub file_bytes : Option SourceFile → Option (List ℕ)
file_bytes None = None
file_bytes (Some file) = Some file.bytes.items

abbrev pub file_sure : Option SourceFile → Bool
file_sure None = true
file_sure (Some file) = is_empty file.failing.items

-- the numbers of the reads of it that fail
abbrev pub file_failing : Option SourceFile → List ℕ
file_failing None = []
file_failing (Some file) = file.failing.items
