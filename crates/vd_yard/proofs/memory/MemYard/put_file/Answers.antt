use Rattle.std.proofs.Common.{◌∙◌, ap, refl, is_some}
use Rattle.vd_yard.specs.MemYard.{files_in}
use Rattle.vd_yard.specs.Out.{AtSource}
use Rattle.vd_yard.specs.PathMap.{map_of}
use Rattle.vd_yard.specs.SourceFile.{file_bytes, file_failing, file_sure}
use Rattle.vd_yard.specs.Yard.{is_there_at}
use Rattle.vd_yard.proofs.Opened.{all_stay, put_stays, put_here, put_other, on_ok}
use Rattle.vd_yard.proofs.memory.MemYard.put_file.Goals as goal

pub returns-clause-puts : goal.returns-clause-puts
returns-clause-puts c =
    let d = c.args.self.now in
    let path = c.args.path in
    let file = c.new.result in
    let files = map_of d.files in
    let now = map_of c.put.new.self in
    on_ok _ _ c.put.result c.put.ensures.ok (λ e. record {
      here = ap file_bytes (put_here path file files now e) ∙ c.new.ensures.bytes;
      sure_here = ap file_sure (put_here path file files now e) ∙ c.new.ensures.sure;
      there = is_there_at (files_in now (map_of d.disks) (map_of d.contents)) AtSource path ∙ ap is_some (put_here path file files now e);
      others = λ q apart. ap file_bytes (put_other path file files now e q apart);
      others_sure = λ q apart. ap file_sure (put_other path file files now e q apart);
      arms_sure = λ q. refl;
      faults = refl;
      out = refl;
      counts = refl;
      keeps_disks = refl;
      keeps_contents = refl;
      willing = refl;
      files = all_stay files now (map_of d.disks) (map_of d.disks) (map_of d.contents) (map_of d.contents) (put_stays path file files now e) (λ q there. there) (λ q there. there);
      disks = refl;
      contents = refl;
    })

pub returns-clause-reads : goal.returns-clause-reads
returns-clause-reads c =
    on_ok _ _ c.put.result c.put.ensures.ok (λ e.
    ap file_failing (put_here c.args.path c.new.result (map_of c.args.self.now.files) (map_of c.put.new.self) e) ∙ c.new.ensures.failing)
