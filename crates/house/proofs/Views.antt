-- Rules and their views, one for one.
use Rattle.std.proofs.Common.{◌≡◌, ◌≤◌, List, [], ◌∷◌, ◌++◌, length}
use Rattle.std.specs.List.{AllByRecursion}
use Rattle.std.proofs.lemmas.List.{length-map, map-append}
use Rattle.table.proofs.Slots.{held_fits}
use Rattle.house.specs.declared.entries.Rule.{Rule}
use Rattle.house.specs.View.{rule_view, rule_views}

pub length_views : (rs : List Rule) → length (rule_views rs) ≡ length rs
length_views rs = length-map rs rule_view

pub views_push : (rs : List Rule) (r : Rule) → rule_views (rs ++ r ∷ []) ≡ rule_views rs ++ rule_view r ∷ []
views_push rs r = map-append rule_view rs (r ∷ [])

-- no body is longer than its table
pub short_views : (rs : List Rule) → AllByRecursion (λ v. length v.body ≤ 8) (rule_views rs)
short_views [] = tt
short_views (r ∷ rs) = (held_fits r.body, short_views rs)
