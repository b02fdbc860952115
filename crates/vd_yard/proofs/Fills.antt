-- A file's rest, cut or filled up to a size.
use Rattle.std.proofs.Common.{◌≡◌, ℕ, ◌+◌, ◌-◌, ◌≤◌, ◌<◌, List, ◌++◌, length, take, drop, replicate, sym, ◌∙◌, ap, arith}
use Rattle.std.proofs.lemmas.List.{take-append-le, take-replicate, drop-replicate, append-nil, length-take-le}
use Rattle.std.proofs.Math.Seq.{take-append-add}

pub long_rest : (rest : List ℕ) (size : ℕ) → size ≤ length rest → take size rest ++ drop (length (take size rest)) (replicate size 0) ≡ take size (rest ++ replicate size 0)
long_rest rest size long =
    let count : length (take size rest) ≡ size = length-take-le size rest long in
    let none : drop size (replicate size 0) ≡ replicate (size - size) 0 = drop-replicate size size 0 in
    let no : size - size ≡ 0 = omega arith in
    ap (λ n. take size rest ++ drop n (replicate size 0)) count
    ∙ ap (λ (l : List ℕ). take size rest ++ l) (none ∙ ap (λ n. replicate n 0) no)
    ∙ append-nil (take size rest)
    ∙ sym (take-append-le size rest (replicate size 0) long)

pub short_rest : (rest : List ℕ) (size : ℕ) → length rest < size → rest ++ drop (length rest) (replicate size 0) ≡ take size (rest ++ replicate size 0)
short_rest rest size short =
    let more : length rest + (size - length rest) ≡ size = omega arith in
    ap (λ (l : List ℕ). rest ++ l) (drop-replicate (length rest) size 0 ∙ sym (take-replicate (size - length rest) size 0 (omega arith)))
    ∙ sym (take-append-add rest (replicate size 0) (size - length rest))
    ∙ ap (λ n. take n (rest ++ replicate size 0)) more
