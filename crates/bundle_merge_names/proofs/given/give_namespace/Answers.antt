-- The object of a namespace gets its name where it is meant.
use Rattle.std.proofs.Common.{rules, ◌≡◌, true, false, sym, ◌∙◌}
use Rattle.std.proofs.lemmas.Bool.{true≢false}
use Rattle.std.proofs.lemmas.Result.{IfErr-weaker}
use Rattle.bundle_rules.specs.Linking as l
use Rattle.bundle_rules.specs.Meaning as m
use Rattle.bundle_merge_theory.specs.made.Given.{NameOf}
use Rattle.bundle_merge_names.proofs.LabelLemmas.{on-ok}
use Rattle.bundle_merge_names.proofs.LackLemmas.{refuses-where}
use Rattle.bundle_merge_names.proofs.SomeLemmas.{adds-where, adds-not}
use Rattle.bundle_merge_names.proofs.given.give_namespace.Goals as goal

pub returns-then-not-is_object_meant-clause-given : goal.returns-then-not-is_object_meant-clause-given
returns-then-not-is_object_meant-clause-given c =
    let none : c.is_object_meant.result ≡ false = search rules in
    λ p list linked handed modules. adds-not p list (m.IsMeant p (m.Of (l.Namespace c.args.which))) (NameOf (m.Of (l.Namespace c.args.which))) c.args.names.now (λ is. true≢false (sym ((c.is_object_meant.ensures p linked modules).1 is) ∙ none))

pub returns-clause-given : goal.returns-clause-given
returns-clause-given c =
    let yes : c.is_object_meant.result ≡ true = search rules in
    on-ok c.give_target.result _ _ (λ adds p list linked handed modules. adds-where p list (m.IsMeant p (m.Of (l.Namespace c.args.which))) (NameOf (m.Of (l.Namespace c.args.which))) c.args.names.now c.give_target.new.names ((c.is_object_meant.ensures p linked modules).0 yes) (adds p list handed tt)) c.give_target.ensures.given

pub returns-clause-refused : goal.returns-clause-refused
returns-clause-refused c =
    let yes : c.is_object_meant.result ≡ true = search rules in
    IfErr-weaker c.give_target.result _ _ (λ refusal refuses p linked modules. refuses-where (m.IsMeant p (m.Of (l.Namespace c.args.which))) (NameOf (m.Of (l.Namespace c.args.which))) c.args.names.now refusal ((c.is_object_meant.ensures p linked modules).0 yes) refuses) c.give_target.ensures.refused
