use Rattle.std.proofs.Common.{◌≡◌, ◌∙◌, ap, Some, None, true, refl, rules}
use Rattle.std.specs.List.{position}
use Rattle.std.specs.Str.{bytes_eq}
use Rattle.vd_yard.specs.Kept.{keep_at}
use Rattle.vd_yard.specs.PathMap.{map_of}
use Rattle.vd_yard.proofs.Entries.{replaced, added, place_is}
use Rattle.vd_yard.proofs.path_map.PathMap.put.Goals as goal
use Rattle.vd_yard.proofs.path_map.PathMap.put.Goals.{in-Ok, in-Err}

pub returns-in-Some-clause-ok : goal.returns-in-Some-clause-ok
returns-in-Some-clause-ok g c =
    let es = c.self.inside.entries.items in
    let path = c.args.path in
    let at : position (λ entry. bytes_eq entry.0 path) es ≡ Some c.in-Some.at = place_is es _ path _ (Some c.in-Some.at) _ c.index_of.ensures c.in-Some.is c.deref.ensures.value c.as_bytes.ensures in
    replaced es path c.in-Some.at c.index_mut.result.now (c.index_mut.result.now.0, c.args.value) at c.index_mut.ensures.value refl
    ∙ ap (λ entries. keep_at true (map_of entries) path c.args.value) c.self.view_is

pub returns-clause-ok : goal.returns-clause-ok
returns-clause-ok g c =
    let es = c.self.inside.entries.items in
    let path = c.args.path in
    let none : position (λ entry. bytes_eq entry.0 path) es ≡ None = place_is es _ path _ None _ c.index_of.ensures c.in_default.is c.deref.ensures.value c.as_bytes.ensures in
    let now = added es path c.args.value none ∙ ap (λ entries. keep_at true (map_of entries) path c.args.value) c.self.view_is in
    elim c.match-push.branch [
      | in-Ok w ↦ rw w.result-is (ap (λ entries. map_of entries) w.in-Ok.ensures.items ∙ now)
      | in-Err w ↦ rw w.result-is (search rules)
    ]
