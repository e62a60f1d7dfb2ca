-- The scope and the one beside it are held.
use Rattle.std.proofs.Common.{map, sym, ap, ◌∙◌, ◌++◌, ◌∷◌, []}
use Rattle.bundle_scope_denote.specs.Numbers.{numbered_scope}
use Rattle.bundle_scope_denote.proofs.BarredLemmas.{holds-both}
use Rattle.bundle_scope_denote.proofs.doubled.held_by.Goals as goal

pub returns : goal.returns
returns c = λ kind by around outermost is known. holds-both (map numbered_scope c.args.scopes.now) c.args.top kind by around c.args.taker c.unwrap_or.result c.group_of.result _ outermost known (sym (c.stands_once.ensures by around is known) ∙ c.if-not-stands_once.false) c.unwrap_or.ensures (c.group_of.ensures around kind outermost known) (c.in_ok-push-2.ensures.items ∙ ap (λ l. l ++ c.group_of.result ∷ []) (c.in_ok-push.ensures.items ∙ ap (λ l. l ++ c.unwrap_or.result ∷ []) c.new-held.ensures.items))
