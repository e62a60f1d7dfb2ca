-- The set tells it.
use Rattle.std.proofs.Common.{◌≡◌, true, IfSome, ap₂, ap, subst, sym, ◌∙◌}
use Rattle.std.specs.Option.{option_map}
use Rattle.bundle_scope_names.specs.Fresh.{collides, is_mangled}
use Rattle.bundle_scope_names.proofs.keywords.TakenNames.collides.Goals as goal

pub returns : goal.returns
returns c = λ items known. c.contains.ensures ∙ known.names c.in-Some-ctxt.ctxt c.in-Some.text.now (subst (λ text. IfSome text (λ text. is_mangled text.now ≡ true)) c.in-Some.is c.requires) ∙ sym (ap₂ (collides items) (ap (option_map (λ text. text.now)) c.in-Some.is) c.in-Some-ctxt.is)
