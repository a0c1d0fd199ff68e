-- `first_match` gives the first match and notes the others.
use mathlib.Core.Path.{sym, ◌∙◌}
use mathlib.Core.Bool.{false}
use Rattle.source.proofs.Order.{starts_self}
use Rattle.find_tree.proofs.Matches.{matches_past}
use Rattle.match_walk.proofs.Matched.{first_noting, first_pass, matched_taken}
use Rattle.match_walk.proofs.first_match.Goals as goal

pub descend-requires-clause-prefix_value : goal.descend-requires-clause-prefix_value
descend-requires-clause-prefix_value c =
    starts_self c.args.prefix.now

pub returns : goal.returns
returns c =
    let a = c.args in
    matched_taken a.prefix.now false
    (c.descend.ensures.notes_on _ (first_noting a.words.now a.text.now a.prefix.now a.root c.clear.ensures))
    (first_pass a.words.now a.text.now a.prefix.now a.root) c.take_note.result
    (λ z. sym (matches_past a.words.now a.text.now a.prefix.now a.root) ∙ c.descend.ensures.none z) c.take_note.ensures
