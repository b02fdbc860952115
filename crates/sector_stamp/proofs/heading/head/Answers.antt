use Rattle.std.proofs.Common.{◌≡◌, ◌∷◌, ◌++◌, ◌∙◌, [], arith, subst, sym, ℕ, List, refl, ap, take, get_or, w64}
use Rattle.std.specs.Prelude.{replicate}
use Rattle.std.specs.Int.{to_be_bytes}
use Rattle.std.proofs.lemmas.List.{take_all}
use Rattle.sector_stamp.specs.Image.{IsHead, check_of}
use Rattle.sector_stamp.proofs.Heads.{put_next, eight_of}
use Rattle.sector_stamp.proofs.heading.head.Goals as goal

pub returns : goal.returns
returns c =
    let name = c.args.name.now in
    let address = c.args.address in
    let key = c.args.key in
    let eight : List ℕ = get_or name 0 0 ∷ get_or name 1 0 ∷ get_or name 2 0 ∷ get_or name 3 0 ∷ get_or name 4 0 ∷ get_or name 5 0 ∷ get_or name 6 0 ∷ get_or name 7 0 ∷ [] in
    let is_eight : eight ≡ name = eight_of name c.told-name in
    let zeros : List ℕ = 0 ∷ 0 ∷ 0 ∷ 0 ∷ 0 ∷ 0 ∷ 0 ∷ 0 ∷ [] in
    let four : List ℕ = 0 ∷ 0 ∷ 0 ∷ 0 ∷ [] in
    let keyed : List ℕ = key ∷ check_of address key ∷ 0 ∷ 0 ∷ [] in
    let zeros_32 : List ℕ = replicate 32 0 in
    let head_8 : List ℕ = to_be_bytes w64 address in
    let to_8 : take 8 c.put.new.out ≡ head_8 = put_next 0 8 zeros_32 c.put.new.out c.to_be_bytes.result [] head_8 c.put.ensures c.to_be_bytes.ensures refl refl in
    let to_16 : take 16 c.put-2.new.out ≡ head_8 ++ zeros = put_next 8 16 c.put.new.out c.put-2.new.out zeros head_8 zeros c.put-2.ensures refl refl to_8 in
    let to_20 : take 20 c.put-3.new.out ≡ (head_8 ++ zeros) ++ keyed =
    put_next 16 20 c.put-2.new.out c.put-3.new.out (key ∷ c.check.result ∷ 0 ∷ 0 ∷ []) (head_8 ++ zeros) keyed c.put-3.ensures (ap (λ (x : ℕ). key ∷ x ∷ 0 ∷ 0 ∷ []) c.check.ensures) refl to_16 in
    let to_28 : take 28 c.put-4.new.out ≡ ((head_8 ++ zeros) ++ keyed) ++ eight =
    put_next 20 28 c.put-3.new.out c.put-4.new.out name ((head_8 ++ zeros) ++ keyed) eight c.put-4.ensures (sym is_eight) refl to_20 in
    let to_32 : take 32 c.put-5.new.out ≡ (((head_8 ++ zeros) ++ keyed) ++ eight) ++ four =
    put_next 28 32 c.put-4.new.out c.put-5.new.out four (((head_8 ++ zeros) ++ keyed) ++ eight) four c.put-5.ensures refl refl to_28 in
    let whole = sym (take_all 32 c.put-5.new.out (omega (arith, c.put-5.array_long))) ∙ to_32 in
    subst (λ (s : List ℕ). IsHead name address key s) (sym whole)
    (record {
      size = refl;
      named = is_eight;
      addressed = refl;
      keyed = refl;
      behind_address = refl;
      behind_key = refl;
      behind_name = refl;
    })
