use Rattle.std.proofs.Common.{◌≡◌, ◌∙◌, ap, sym, Some, None}
use Rattle.std.specs.List.{position}
use Rattle.std.specs.Str.{bytes_eq}
use Rattle.vd_yard.specs.Kept.{kept_at}
use Rattle.vd_yard.specs.PathMap.{map_of}
use Rattle.vd_yard.proofs.Entries.{found_value, found_none}
use Rattle.vd_yard.proofs.path_map.PathMap.get.Goals as goal

pub returns-in-Some : goal.returns-in-Some
returns-in-Some g c =
    let es = c.self.inside.entries.items in
    let path = c.args.path.now in
    let at : position (λ entry. bytes_eq entry.0 path) es ≡ Some c.in-Some.at = cc (c.in-Some.ensures, c.deref.ensures.value) in
    ap (λ entries. kept_at (map_of entries) path) (sym c.self.view_is) ∙ found_value es path c.in-Some.at c.index.result.now at c.index.ensures

pub returns-in-None : goal.returns-in-None
returns-in-None g c =
    let es = c.self.inside.entries.items in
    let path = c.args.path.now in
    let none : position (λ entry. bytes_eq entry.0 path) es ≡ None = cc (c.in-None.ensures, c.deref.ensures.value) in
    ap (λ entries. kept_at (map_of entries) path) (sym c.self.view_is) ∙ found_none es path none
