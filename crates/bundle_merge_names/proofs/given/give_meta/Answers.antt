-- The object for `import.meta` gets its name where the module has that.
use Rattle.std.proofs.Common.{rules, ◌≡◌, ◌∙◌, true, false, sym}
use Rattle.std.specs.Prelude.{is_some}
use Rattle.std.proofs.lemmas.Result.{IfErr-weaker}
use Rattle.bundle_rules.specs.Entries.{has_import_meta}
use Rattle.bundle_rules.specs.Meaning as m
use Rattle.bundle_rules.specs.Program.{tree_of}
use Rattle.bundle_merge_theory.specs.made.Given.{NameOf}
use Rattle.bundle_merge_names.specs.Added.{IsWhere}
use Rattle.bundle_merge_names.specs.Named.{IsGiven}
use Rattle.bundle_merge_names.specs.declared.names.Label.TheVariants as n
use Rattle.bundle_merge_names.proofs.LabelLemmas.{on-ok}
use Rattle.bundle_merge_names.proofs.LackLemmas.{refuses-like, where-refused}
use Rattle.bundle_merge_names.proofs.ModuleLemmas.{meta-none, meta-one, meta-written, second-given}
use Rattle.bundle_merge_names.proofs.given.give_meta.Goals as goal

pub returns-then-not-part-clause-given : goal.returns-then-not-part-clause-given
returns-then-not-part-clause-given c = λ p list written part says. meta-none p c.args.which written list c.args.part.now c.args.names.now part (search rules)

pub returns-then-is_some-clause-given : goal.returns-then-is_some-clause-given
returns-then-is_some-clause-given c = λ p list written part says. meta-written p c.args.which written list c.args.part.now c.args.names.now says (search rules)

pub returns-clause-given : goal.returns-clause-given
returns-clause-given c = on-ok c.give.result _ _ (λ gives p list written part says. meta-one p c.args.which written list c.args.part.now c.args.names.now c.give.new.self part says (search rules) (search rules) gives) c.give.ensures.given

pub returns-clause-refused : goal.returns-clause-refused
returns-clause-refused c =
    let yes : c.args.part.now.tables.now.has_import_meta ≡ true = search rules in
    let none : is_some c.args.part.now.written ≡ false = search rules in
    IfErr-weaker c.give.result _ _ (λ refusal refuses p written part says.
    (refuses-like (IsWhere (has_import_meta (tree_of p c.args.which) ≡ true) (NameOf (m.Meta c.args.which))) (IsGiven written (IsWhere (has_import_meta (tree_of p c.args.which) ≡ true) (NameOf (m.Meta c.args.which)))) c.args.names.now refusal (second-given p c.args.which written c.args.part.now says none)
    (where-refused (has_import_meta (tree_of p c.args.which) ≡ true) (n.Meta c.args.which) c.args.names.now refusal (sym part.meta ∙ yes) refuses))) c.give.ensures.refused
