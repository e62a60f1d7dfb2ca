-- What the module needs gets names in turn.
use Rattle.std.proofs.Common.{◌≡◌, true}
use Rattle.std.proofs.lemmas.Result.{IfErr-weaker}
use Rattle.bundle_rules.specs.Entries.{has_import_meta}
use Rattle.bundle_rules.specs.Linking as l
use Rattle.bundle_rules.specs.Linking.{IsCommonJs}
use Rattle.bundle_rules.specs.Meaning as m
use Rattle.bundle_rules.specs.Program.{tree_of}
use Rattle.bundle_merge_theory.specs.made.Given.{NameOf}
use Rattle.bundle_merge_names.specs.Added.{IsOfLoads, IsOfModule, IsWhere}
use Rattle.bundle_merge_names.specs.Named.{IsGiven}
use Rattle.bundle_merge_names.proofs.LabelLemmas.{on-ok}
use Rattle.bundle_merge_names.proofs.ModuleLemmas.{adds-module, load-given, loads-given, meta-given, namespace-given}
use Rattle.bundle_merge_names.proofs.LackLemmas.{refuses-after, refuses-like}
use Rattle.bundle_merge_names.proofs.ScopeLemmas.{handed-on}
use Rattle.bundle_merge_names.proofs.given.give_module.Goals as goal

pub returns-clause-given : goal.returns-clause-given
returns-clause-given c = on-ok c.give_namespace.result _ _ (λ adds p list written linked handed modules reached part says. adds-module p c.args.which written list c.args.names.now c.give_load.new.names c.give_meta.new.names c.give_loads.new.names c.give_namespace.new.names (c.in_ok-give_load.ensures.given p list linked) (c.in_ok-give_meta.ensures.given p list written part says) (c.in_ok-give_loads.ensures.given p list handed modules reached) (adds p list linked handed modules)) c.give_namespace.ensures.given

pub returns-in_err-give_load-clause-refused : goal.returns-in_err-give_load-clause-refused
returns-in_err-give_load-clause-refused c = handed-on _ _ _ c.from_residual.ensures.1 (λ p list written linked handed modules reached part says.
    (refuses-like (IsWhere (IsCommonJs p c.args.which) (NameOf (m.Load c.args.which))) (IsGiven written (IsOfModule p c.args.which)) c.args.names.now c.in_err-give_load.field-0.0 (load-given p c.args.which written) (c.in_err-give_load.ensures.refused p linked)))

pub returns-in_err-give_meta-clause-refused : goal.returns-in_err-give_meta-clause-refused
returns-in_err-give_meta-clause-refused c = handed-on _ _ _ c.from_residual-in_err-give_meta.ensures.1 (λ p list written linked handed modules reached part says.
    (refuses-after p list (IsWhere (IsCommonJs p c.args.which) (NameOf (m.Load c.args.which))) (IsGiven written (IsOfModule p c.args.which)) c.args.names.now c.give_load.new.names c.in_err-give_meta.field-0.0 (load-given p c.args.which written) (c.in_ok-give_load.ensures.given p list linked)
    (refuses-like (IsGiven written (IsWhere (has_import_meta (tree_of p c.args.which) ≡ true) (NameOf (m.Meta c.args.which)))) (IsGiven written (IsOfModule p c.args.which)) c.give_load.new.names c.in_err-give_meta.field-0.0 (meta-given p c.args.which written) (c.in_err-give_meta.ensures.refused p written part says))))

pub returns-in_err-give_loads-clause-refused : goal.returns-in_err-give_loads-clause-refused
returns-in_err-give_loads-clause-refused c = handed-on _ _ _ c.from_residual-in_err-give_loads.ensures.1 (λ p list written linked handed modules reached part says.
    (refuses-after p list (IsWhere (IsCommonJs p c.args.which) (NameOf (m.Load c.args.which))) (IsGiven written (IsOfModule p c.args.which)) c.args.names.now c.give_load.new.names c.in_err-give_loads.field-0.0 (load-given p c.args.which written) (c.in_ok-give_load.ensures.given p list linked)
    (refuses-after p list (IsGiven written (IsWhere (has_import_meta (tree_of p c.args.which) ≡ true) (NameOf (m.Meta c.args.which)))) (IsGiven written (IsOfModule p c.args.which)) c.give_load.new.names c.give_meta.new.names c.in_err-give_loads.field-0.0 (meta-given p c.args.which written) (c.in_ok-give_meta.ensures.given p list written part says)
    (refuses-like (IsOfLoads p c.args.which) (IsGiven written (IsOfModule p c.args.which)) c.give_meta.new.names c.in_err-give_loads.field-0.0 (loads-given p c.args.which written) (c.in_err-give_loads.ensures.refused p list handed modules reached)))))

pub returns-clause-refused : goal.returns-clause-refused
returns-clause-refused c = IfErr-weaker c.give_namespace.result _ _ (λ refusal refuses p list written linked handed modules reached part says.
    (refuses-after p list (IsWhere (IsCommonJs p c.args.which) (NameOf (m.Load c.args.which))) (IsGiven written (IsOfModule p c.args.which)) c.args.names.now c.give_load.new.names refusal (load-given p c.args.which written) (c.in_ok-give_load.ensures.given p list linked)
    (refuses-after p list (IsGiven written (IsWhere (has_import_meta (tree_of p c.args.which) ≡ true) (NameOf (m.Meta c.args.which)))) (IsGiven written (IsOfModule p c.args.which)) c.give_load.new.names c.give_meta.new.names refusal (meta-given p c.args.which written) (c.in_ok-give_meta.ensures.given p list written part says)
    (refuses-after p list (IsOfLoads p c.args.which) (IsGiven written (IsOfModule p c.args.which)) c.give_meta.new.names c.give_loads.new.names refusal (loads-given p c.args.which written) (c.in_ok-give_loads.ensures.given p list handed modules reached)
    (refuses-like (IsWhere (m.IsMeant p (m.Of (l.Namespace c.args.which))) (NameOf (m.Of (l.Namespace c.args.which)))) (IsGiven written (IsOfModule p c.args.which)) c.give_loads.new.names refusal (namespace-given p c.args.which written) (refuses p linked modules)))))) c.give_namespace.ensures.refused
