-- What is added to a list of items, or of pairs, comes behind what is there; what is added one behind
-- another is made for its causes in turn.
-- What is left of a module's items states something behind what is stated by those before.
use Rattle.std.proofs.Common.{◌≡◌, ℕ, List, [], ◌++◌, Option, append_assoc, append-nil, ap, sym, ◌∙◌, ◌⊎◌, ◌∷◌, inl, inr, subst, length, drop, arith}
use Rattle.std.proofs.lemmas.List.{map-append}
use Rattle.std.proofs.lemmas.Grind.{common_steps}
use Rattle.bundle_syntax.specs.Item.{Item}
use Rattle.bundle_tree_ast.specs.declared.module.Module.{Module}
use Rattle.bundle_rules.specs.Bundle.{Cause}
use Rattle.bundle_rules.specs.Program.{Program}
use Rattle.bundle_tree_ast.specs.declared.module.ModuleItem.{ModuleItem}
use Rattle.bundle_tree_ast.specs.declared.stmt.Stmt.{Stmt}
use Rattle.bundle_rules.specs.Idents.{Ident}
use Rattle.bundle_tree_listed.specs.Tree.{option_items, stmt_items}
use Rattle.bundle_tree_rebuild.specs.declared.rewrite.Rewrite.{Rewrite}
use Rattle.bundle_tree_rewrite.specs.Stated.{States}
use Rattle.bundle_merge_theory.specs.made.Given.{HookAnswer, BundleContexts}
use Rattle.bundle_merge_theory.specs.made.Made.{IsMade}
use Rattle.bundle_merge_theory.proofs.laid.Ready.{zip-join}
use Rattle.bundle_merge_items.specs.Added.{module_item_lists}
use Rattle.bundle_merge_items.specs.Adds.{AddsItems, any_hooks}
use Rattle.bundle_merge_items.specs.Stated.{StateInTurn, no_item, no_part, one_more, as_list, occurrence_count, work_by}

-- ---- adding
pub ruleset adding = (common_steps, map-append, append_assoc)

module _ (q : Program) (list : List ℕ) (answers : ℕ → Option HookAnswer) (context : BundleContexts) where
  -- nothing is added
  pub adds-none : (items : Module) → AddsItems q list answers context [] items items
  adds-none items = record { made = []; each = tt; is = sym (append-nil (module_item_lists items)) }

  -- one behind another
  pub adds-on : (first second : List Cause) (a b c : Module) →
      AddsItems q list answers context first a b →
      AddsItems q list answers context second b c →
      AddsItems q list answers context (first ++ second) a c
  adds-on first second a b c one two = record {
    made = one.made ++ two.made;
    each = zip-join (IsMade q any_hooks list context answers) first second one.made two.made
        one.each two.each;
    is = two.is
        ∙ (ap (λ l. l ++ two.made) one.is ∙ append_assoc (module_item_lists a) one.made two.made);
  }

  -- behind items that have the same lists
  pub adds-behind : (causes : List Cause) (a b c : Module) → module_item_lists b ≡ module_item_lists a →
      AddsItems q list answers context causes b c →
      AddsItems q list answers context causes a c
  adds-behind causes a b c same one = record {
    made = one.made;
    each = one.each;
    is = one.is ∙ ap (λ l. l ++ one.made) same;
  }

-- ---- turning

-- what these items, with their parts, state from here on stands behind what is there
abbrev pub StatesBehind : Option Ident → Ident → List ModuleItem → List (List Item) →
    List Rewrite → List (List Item) → List ModuleItem → List (List Item) → List Rewrite → Type 0
StatesBehind meta default items parts rewrites there left lists rest =
    (more : List (List Item)) →
    StateInTurn meta default left lists rest more →
    StateInTurn meta default items parts rewrites (there ++ more)

module _ (meta : Option Ident) (default : Ident) (items : List ModuleItem) (parts : List (List Item)) (rewrites : List Rewrite) where
  pub turned-next : (there next : List (List Item)) (left others : List ModuleItem)
      (rest behind : List Rewrite) (lists more : List (List Item)) (item : ModuleItem)
      (part : List Item) (made : Option Stmt) →
      left ≡ item ∷ others →
      lists ≡ part ∷ more →
      States (work_by rest meta) default item (option_items (stmt_items 0) made) →
      next ≡ there ++ as_list made →
      behind ≡ drop (occurrence_count part) rest →
      StatesBehind meta default items parts rewrites there left lists rest →
      StatesBehind meta default items parts rewrites next others more behind
  turned-next there next left others rest behind lists more item part made first second states pushed cut before =
      λ later its.
      subst (λ l. StateInTurn meta default items parts rewrites l)
      (sym (append_assoc there (as_list made) later) ∙ ap (λ l. l ++ later) (sym pushed))
      (before (as_list made ++ later)
      (subst (λ l. StateInTurn meta default l lists rest (as_list made ++ later)) (sym first)
      (subst (λ l. StateInTurn meta default (item ∷ others) l rest (as_list made ++ later))
      (sym second)
      (one_more made states
      (subst (λ l. StateInTurn meta default others more l later) cut its)))))

  pub turned-all : (there : List (List Item)) (left : List ModuleItem) (rest : List Rewrite)
      (lists : List (List Item)) →
      (length left ≡ 0) ⊎ (length lists ≡ 0) →
      StatesBehind meta default items parts rewrites there left lists rest →
      StateInTurn meta default items parts rewrites there
  turned-all there left rest lists ended before =
      subst (λ l. StateInTurn meta default items parts rewrites l) (append-nil there)
      (before [] (nothing left lists ended))
    where
      nothing : (xs : List ModuleItem) (ys : List (List Item)) →
          (length xs ≡ 0) ⊎ (length ys ≡ 0) →
          StateInTurn meta default xs ys rest []
      nothing [] ys none = no_item
      nothing (x ∷ xs) [] none = no_part
      nothing (x ∷ xs) (y ∷ ys) (inl none) = absurd (omega (arith, none))
      nothing (x ∷ xs) (y ∷ ys) (inr none) = absurd (omega (arith, none))
