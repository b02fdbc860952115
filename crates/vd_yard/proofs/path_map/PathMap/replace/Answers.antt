use Rattle.std.proofs.Common.{◌≡◌, ◌∙◌, ap, sym, Some, None, true, refl}
use Rattle.std.specs.List.{position}
use Rattle.std.specs.Str.{bytes_eq}
use Rattle.vd_yard.specs.Kept.{kept_at, keep_at}
use Rattle.vd_yard.specs.PathMap.{map_of}
use Rattle.vd_yard.proofs.Entries.{replaced, found_none, place_is, some_not_none}
use Rattle.vd_yard.proofs.path_map.PathMap.replace.Goals as goal

pub returns-in-Some : goal.returns-in-Some
returns-in-Some g c =
    let es = c.self.inside.entries.items in
    let path = c.args.path.now in
    let at : position (λ entry. bytes_eq entry.0 path) es ≡ Some c.in-Some.at = cc (c.in-Some.ensures, c.deref.ensures.value) in
    let item : c.index_mut.result.now ≡ _ = c.index_mut.ensures.value in
    replaced es path c.in-Some.at c.index_mut.result.now (c.index_mut.result.now.0, c.args.value) at item refl
    ∙ ap (λ entries. keep_at true (map_of entries) path c.args.value) c.self.view_is

pub returns-in_default : goal.returns-in_default
returns-in_default g c =
    let es = c.self.inside.entries.items in
    let path = c.args.path.now in
    let none : position (λ entry. bytes_eq entry.0 path) es ≡ None = place_is es _ path path None _ c.index_of.ensures c.in_default.is c.deref.ensures.value refl in
    absurd (some_not_none _ c.requires (ap (λ entries. kept_at (map_of entries) path) (sym c.self.view_is) ∙ found_none es path none))
