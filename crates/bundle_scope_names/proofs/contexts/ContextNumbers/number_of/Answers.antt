-- A binding has its number, or gets the next.
use Rattle.std.proofs.Common.{◌∙◌, None, refl, sym, subst, arith}
use Rattle.std.proofs.lemmas.List.{get_or_default}
use Rattle.bundle_scope_names.specs.Numbering.{GivesNumber}
use Rattle.bundle_scope_names.proofs.KnowsLemmas.{has-one, none-left, gets-next}
use Rattle.bundle_scope_names.proofs.contexts.ContextNumbers.number_of.Goals as goal

pub returns-in-Some : goal.returns-in-Some
returns-in-Some c = has-one c.args.binding c.in-Some.number c.args.self.now c.requires (get_or_default c.args.self.now.of.items c.args.binding None c.index.result.now c.requires ∙ (sym c.index.ensures ∙ c.in-Some.is))

pub returns-in_err-self : goal.returns-in_err-self
returns-in_err-self c = subst (GivesNumber c.args.binding c.args.self.now c.args.self.now) (sym c.from_residual.ensures) (none-left c.args.binding c.args.self.now c.requires (get_or_default c.args.self.now.of.items c.args.binding None c.index.result.now c.requires ∙ (sym c.index.ensures ∙ c.in_default.is)) (let past = c.in_err-self.ensures in omega (arith, past)))

pub returns : goal.returns
returns c = gets-next c.args.binding c.args.self.now _ c.requires (get_or_default c.args.self.now.of.items c.args.binding None c.index.result.now c.requires ∙ (sym c.index.ensures ∙ c.in_default.is)) (let next = c.in_ok-self.ensures in next.1) refl
