-- What becomes of the names of a CommonJS module: each is kept, or is that of a literal call.
use Rattle.std.specs.Prelude.{◌≡◌, ℕ, false, List, [], ◌∷◌}
use Rattle.bundle_syntax.specs.declared.piece.Role.TheVariants as r
use Rattle.bundle_syntax.specs.Item as h
use Rattle.bundle_syntax.specs.Item.{Item}
use Rattle.bundle_tree_rebuild.specs.declared.rewrite.Whole.TheVariants as w
use Rattle.bundle_tree_rebuild.specs.Work.{Step, is_spelled_out_by}
use Rattle.bundle_rules.specs.Places.{Occurrence, is_binding}
use Rattle.bundle_rules.specs.Idents.{Ident}
use Rattle.bundle_rules.specs.Callable.{is_module_head}
use Rattle.bundle_rules.specs.Program.{Program, IsReached}
use Rattle.bundle_rules.specs.Linking.{IsCommonJs}
use Rattle.bundle_rules.specs.Meaning.{Load}
use Rattle.bundle_merge_theory.specs.loaded.Walk.{KeepsIt}
use Rattle.bundle_merge_theory.specs.made.Given.{BundleContexts, ident_of_label}
use Rattle.bundle_merge_theory.specs.made.Steps.{IsCalled}

-- the name of the load function of a reached CommonJS module
pub record IsLoadName (p : Program) (list : List ℕ) (context : BundleContexts)
    (name : Ident) : Type 0
  where
    pub which : ℕ
    pub reached : IsReached p which
    pub common_js : IsCommonJs p which
    pub is : name ≡ ident_of_label p list context (Load which)

-- the step of an occurrence of a CommonJS module
pub data StepFor (p : Program) (list : List ℕ) (context : BundleContexts) (m : ℕ) (o : Occurrence)
    (step : Step) : Type 0 where
  keeps_it : ((c : ℕ) → IsCalled p m o c → ⊥) → KeepsIt step o.sym → step.whole ≡ w.Alone →
      StepFor p list context m o step
  calls_it : {c : ℕ} → IsCalled p m o c → is_binding o.role ≡ false →
      IsLoadName p list context step.ident → step.whole ≡ w.Call →
      (is_spelled_out_by step.spelling step.ident.0 o.sym ≡ false → step.ident.0 ≡ o.sym) →
      StepFor p list context m o step

-- no node of a module stands there
abbrev pub HasNoModules : List Item → Type 0
HasNoModules [] = Unit {0}
HasNoModules (h.Open field head ∷ rest) = (is_module_head head ≡ false) × HasNoModules rest
HasNoModules (x ∷ rest) = HasNoModules rest

-- if an occurrence stands first, it is not called
abbrev pub NoCall : Program → ℕ → ℕ → List Item → Type 0
NoCall p m place (h.Ident field x ctxt r.Word ∷ rest) = Unit {0}
NoCall p m place (h.Ident field x ctxt role ∷ rest) =
    (c : ℕ) (o : Occurrence) → o.place ≡ place → IsCalled p m o c → ⊥
NoCall p m place _ = Unit {0}
