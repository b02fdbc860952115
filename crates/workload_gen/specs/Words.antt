-- The words that a worker's turns are drawn from.
use Rattle.std.specs.Prelude.{ℕ}
use Rattle.rand_pcg.specs.Lcg.{Lcg, advance, increment_of, started}
use Rattle.rand_pcg.specs.Pcg.{multiplier_64, pcg32}

-- the generator of a worker: its state is begun by the run's number, and its stream is the worker's number
abbrev pub generator_of : ℕ → ℕ → Lcg
generator_of run worker = started 64 multiplier_64 run (increment_of 64 worker)

-- the generator behind so many words
abbrev pub behind_words : Lcg → ℕ → Lcg
behind_words generator n = advance 64 multiplier_64 n generator

-- word n of a generator, from 0
abbrev pub word_at : Lcg → ℕ → ℕ
word_at generator n = (pcg32 (behind_words generator n)).0
