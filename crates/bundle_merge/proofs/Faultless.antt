-- A program that a check of linking finds nothing wrong with, and in which no module declares a name twice, has no
-- fault.
use Rattle.std.proofs.Common.{◌≡◌, ℕ, None, sym, ◌∙◌, arith}
use Rattle.std.proofs.lemmas.Option.{none-some}
use Rattle.bundle_tree_names.specs.FileName.{Name}
use Rattle.bundle_rules.specs.Doubled.{first_doubled}
use Rattle.bundle_rules.specs.Faults.{Fault, IsFaultlessProgram, ProgramFault, required_entry, required_es_module, doubled_declaration, await_in_common_js, star_of_common_js, name, namespace_over_external_star, external_under_iife, arguments_under_iife}
use Rattle.bundle_rules.specs.Meaning.{HasKind}
use Rattle.bundle_rules.specs.Program.{Program, tree_of, IsReached}
use Rattle.bundle_rules.specs.Scopes.{ModuleKind}
use Rattle.bundle_rules.specs.Tables.{IsChecked}

module _ (p : Program) (checked : IsChecked p None) (undoubled : (m : ℕ) (kind : ModuleKind) → IsReached p m → HasKind p m kind → first_doubled kind (tree_of p m) ≡ None) where
  no-fault : {m stage place : ℕ} {file : Name} {f : Fault} → IsReached p m →
      ProgramFault p file m stage place f → ⊥
  no-fault {m = m} {file = file} reached (required_entry call there leads) =
      checked m 0 call.place file _ (λ e. absurd (omega (arith, e))) reached
      (required_entry call there leads)
  no-fault {m = m} {file = file} reached (required_es_module call there leads script) =
      checked m 1 call.place file _ (λ e. absurd (omega (arith, e))) reached
      (required_es_module call there leads script)
  no-fault {m = m} reached (doubled_declaration {kind = kind} d has is) =
      absurd (none-some d (sym (undoubled m kind reached has) ∙ is))
  no-fault {m = m} {file = file} reached (await_in_common_js common awaits) =
      checked m 3 0 file _ (λ e. absurd (omega (arith, e))) reached
      (await_in_common_js common awaits)
  no-fault {m = m} {file = file} reached (star_of_common_js {j = j} there leads common) =
      checked m 4 j file _ (λ e. absurd (omega (arith, e))) reached
      (star_of_common_js there leads common)
  no-fault {m = m} {file = file} reached (name {j = j} asked there its fault) =
      checked m 5 j file _ (λ e. absurd (omega (arith, e))) reached (name asked there its fault)
  no-fault {m = m} {file = file} reached (namespace_over_external_star meant stars) =
      checked m 6 0 file _ (λ e. absurd (omega (arith, e))) reached
      (namespace_over_external_star meant stars)
  no-fault {m = m} {file = file} reached (external_under_iife {j = j} iife there external) =
      checked m 7 j file _ (λ e. absurd (omega (arith, e))) reached
      (external_under_iife iife there external)
  no-fault {m = m} {file = file} reached (arguments_under_iife iife not free) =
      checked m 8 0 file _ (λ e. absurd (omega (arith, e))) reached
      (arguments_under_iife iife not free)

  pub faultless-program : IsFaultlessProgram p
  faultless-program m stage place file f reached fault = no-fault reached fault
