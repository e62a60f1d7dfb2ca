-- The helper, its parameter and its variable get names, one after another.
use Rattle.std.proofs.Common.{◌≡◌, ◌⊎◌, inl, inr, refl, sym, subst, ℕ, List}
use Rattle.bundle_rules.specs.Meaning as m
use Rattle.bundle_rules.specs.Program.{Program}
use Rattle.bundle_merge_names.specs.declared.names.Label.TheVariants as n
use Rattle.bundle_merge_names.specs.declared.names.BundleNames.{BundleNames}
use Rattle.bundle_merge_names.specs.Added.{GivesNames, IsOfHelper, its_name, its_parameter, its_variable, RefusesLabels}
use Rattle.bundle_merge_theory.specs.made.Given.{Holder, NameOf, HelperParameter, HelperVariable}
use Rattle.bundle_merge_names.proofs.LabelLemmas.{adds-one, adds-on}
use Rattle.bundle_merge_names.specs.declared.error.MergeError.{MergeError}
use Rattle.bundle_merge_names.specs.declared.names.Label.{Label}
use Rattle.bundle_merge_names.specs.Held.{RefusesName}
use Rattle.bundle_merge_names.specs.Named.{holder_of}
use Rattle.bundle_merge_names.proofs.LackLemmas.{refuses-like, refuses-one, refuses-past}
use Rattle.bundle_merge_names.proofs.ScopeLemmas.{handed-on}
use Rattle.bundle_merge_names.proofs.given.give_helper.Goals as goal

abbrev FirstTwo : Holder → Type 0
FirstTwo holder = (holder ≡ NameOf m.Helper) ⊎ (holder ≡ HelperParameter)

split : (holder : Holder) → IsOfHelper holder → FirstTwo holder ⊎ (holder ≡ HelperVariable)
split _ its_name = inl (inl refl)
split _ its_parameter = inl (inr refl)
split _ its_variable = inr refl

first : (holder : Holder) → FirstTwo holder → IsOfHelper holder
first holder (inl is) = subst IsOfHelper (sym is) its_name
first holder (inr is) = subst IsOfHelper (sym is) its_parameter

all-three : (p : Program) (list : List ℕ) (a b c d : BundleNames) → GivesNames p list (λ h. h ≡ NameOf m.Helper) a b → GivesNames p list (λ h. h ≡ HelperParameter) b c → GivesNames p list (λ h. h ≡ HelperVariable) c d → GivesNames p list IsOfHelper a d
all-three p list a b c d one two three = adds-on p list FirstTwo (λ h. h ≡ HelperVariable) IsOfHelper a c d split first (λ h is. subst IsOfHelper (sym is) its_variable) (adds-on p list (λ h. h ≡ NameOf m.Helper) (λ h. h ≡ HelperParameter) FirstTwo a b c (λ h is. is) (λ h is. inl is) (λ h is. inr is) one two) three

one-refused : (label : Label) (old : BundleNames) (refusal : MergeError) → IsOfHelper (holder_of label) → RefusesName label old refusal → RefusesLabels IsOfHelper old refusal
one-refused label old refusal its refuses = refuses-like (λ holder. holder ≡ holder_of label) IsOfHelper old refusal (λ holder is. subst IsOfHelper (sym is) its) (refuses-one label old refusal refuses)

pub returns-clause-given : goal.returns-clause-given
returns-clause-given c = λ p list. all-three p list c.args.names.now c.give.new.self c.give-2.new.self c.give-3.new.self (adds-one p list n.Helper _ c.args.names.now c.give.new.self refl c.in_ok-give.ensures.given) (adds-one p list n.HelperParameter _ c.give.new.self c.give-2.new.self refl c.in_ok-give-2.ensures.given) (adds-one p list n.HelperVariable _ c.give-2.new.self c.give-3.new.self refl c.in_ok-give-3.ensures.given)

pub returns-in_err-give-clause-refused : goal.returns-in_err-give-clause-refused
returns-in_err-give-clause-refused c = handed-on _ _ _ c.from_residual.ensures.1 (one-refused n.Helper c.args.names.now c.in_err-give.field-0.0 its_name c.in_err-give.ensures.refused)

pub returns-in_err-give-2-clause-refused : goal.returns-in_err-give-2-clause-refused
returns-in_err-give-2-clause-refused c = handed-on _ _ _ c.from_residual-in_err-give-2.ensures.1
    (refuses-past IsOfHelper n.Helper _ c.args.names.now c.give.new.self c.in_err-give-2.field-0.0 its_name c.in_ok-give.ensures.given
    (one-refused n.HelperParameter c.give.new.self c.in_err-give-2.field-0.0 its_parameter c.in_err-give-2.ensures.refused))

pub returns-in_err-give-3-clause-refused : goal.returns-in_err-give-3-clause-refused
returns-in_err-give-3-clause-refused c = handed-on _ _ _ c.from_residual-in_err-give-3.ensures.1
    (refuses-past IsOfHelper n.Helper _ c.args.names.now c.give.new.self c.in_err-give-3.field-0.0 its_name c.in_ok-give.ensures.given
    (refuses-past IsOfHelper n.HelperParameter _ c.give.new.self c.give-2.new.self c.in_err-give-3.field-0.0 its_parameter c.in_ok-give-2.ensures.given
    (one-refused n.HelperVariable c.give-2.new.self c.in_err-give-3.field-0.0 its_variable c.in_err-give-3.ensures.refused)))
