-- The fault that linking tells is told of the file of its module.
use Rattle.std.proofs.Common.{List, Contains, Some, length, refl, sym, ap, ◌∙◌, subst, slice_get}
use Rattle.std.specs.Prelude.{IfSome}
use Rattle.std.proofs.lemmas.Option.{slice_get_read}
use Rattle.bundle_tree_names.specs.FileName.{name_of}
use Rattle.bundle_rules.specs.Tables.{IsChecked}
use Rattle.bundle_link_targets.proofs.StageLemmas.{is_none}
use Rattle.bundle_link.specs.Refusals.{module_files}
use Rattle.bundle_link.specs.declared.transformed.TransformedModule.{TransformedModule}
use Rattle.bundle_link.proofs.ProgramLemmas.{are_modules, fault_checked, none_checked}
use Rattle.bundle_link.proofs.ClearedTables.{at_place}
use Rattle.bundle_link.proofs.link.Linker.check.Goals as goal

pub returns-in_ok-link_refusal-in-Some-get : goal.returns-in_ok-link_refusal-in-Some-get
returns-in_ok-link_refusal-in-Some-get c =
    let all = c.deref.result.now in
    let one = c.in-Some-get.module.now in
    let there = slice_get_read all (length all) c.in-Some.fault.which one refl c.in-Some-get.ensures.lookup.3.0 c.in-Some-get.ensures.lookup.1 in
    let among = at_place (λ (m : TransformedModule). name_of m.file_name) all c.in-Some.fault.which one there in
    record {
      refused =
          c.in_ok-link_refusal-in-Some-get.ensures.named (module_files c.args.self.now.modules.items) (subst (λ l. Contains (module_files l) (name_of one.file_name)) c.deref.ensures.value among);
      told = λ p sound.
          subst (λ o. IfSome o (λ fault. IsChecked p (Some fault))) (sym c.in_ok-link_refusal-in-Some-get.ensures.told)
          (fault_checked p c.args.self.now sound.of c.fault.result c.in-Some.fault c.in-Some.is (c.fault.ensures p sound.of.linked (are_modules p c.args.self.now sound)) one
          (ap (λ (l : List TransformedModule). slice_get l c.in-Some.fault.which) (sym c.deref.ensures.value) ∙ there));
    }

pub returns-in_default-clause-told : goal.returns-in_default-clause-told
returns-in_default-clause-told c = λ p sound.
    none_checked p c.args.self.now sound.of c.fault.result (is_none c.fault.result c.in_default.not-Some) (c.fault.ensures p sound.of.linked (are_modules p c.args.self.now sound))
