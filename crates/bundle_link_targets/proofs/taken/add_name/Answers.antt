-- The names of each giver are those before, and this one where it is its own.
use Rattle.std.proofs.Common.{◌≡◌, ◌++◌, Option, None, Some, refl, ap, sym, ◌∙◌, Bor, Vec, Global}
use Rattle.std.proofs.lemmas.Result.{on_ok_weaker}
use Rattle.indexmap.specs.IndexMap.{IndexMap, get, get_by}
use Rattle.bundle_rules.specs.Nodes.{Text}
use Rattle.bundle_scope_denote.specs.texts.Seen.{list_of}
use Rattle.bundle_link_targets.specs.contracts.taken.GiverPartialEq.TheImpl as giver_impl
use Rattle.bundle_link_targets.specs.declared.taken.Giver.{Giver}
use Rattle.bundle_link_targets.specs.Taken.{name_list, names_for, given_to_giver}
use Rattle.bundle_link_targets.proofs.taken.add_name.Goals as goal

same_list : (found : Option (Vec (Bor Text) Global)) → name_list found ≡ list_of found
same_list None = refl
same_list (Some list) = refl

-- the names for a giver are the list at it
same_names : {S : Type 0} (names : IndexMap Giver (Vec (Bor Text) Global) S) (giver : Giver)
    → names_for names giver ≡ list_of (get giver_impl.ghosts.eq names giver)
same_names names giver = same_list (get_by (giver_impl.ghosts.eq giver) names)

pub returns : goal.returns
returns c =
    on_ok_weaker c.push.result
    (λ pushed giver.
    same_names c.push.new.self giver ∙ pushed giver
    ∙ ap (λ l. l ++ given_to_giver c.args.giver giver c.args.name) (sym (same_names c.args.names.now giver)))
    c.push.ensures
