-- Which names a bundle gives: a context to each scope of its modules, and an identifier to each
-- label; and what it has of the hook's answers.
use Rattle.std.specs.Prelude.{◌≡◌, ℕ, ◌-◌, nat_lt, Bool, true, false, List, Option, Some, option_map, if◌then◌else◌, codes}
use Rattle.bundle_syntax.specs.declared.kind.ExportMetadata.{ExportMetadata}
use Rattle.bundle_syntax.specs.Item.{Item}
use Rattle.bundle_rules.specs.Idents.{Ident}
use Rattle.bundle_rules.specs.Program.{Program}
use Rattle.bundle_rules.specs.Linking.{Declared}
use Rattle.bundle_rules.specs.Meaning.{Label, Of, Parameter}
use Rattle.bundle_rules.specs.Symbols.{symbol_of_label}
use Rattle.bundle_scope_names.proofs.Numbering.{Numbering}

-- what a bundle has of the hook's answer for a module: properties whose names get their contexts
-- in the bundle; or the object of its `import.meta` as it is written already, with the context of
-- its name, its notes, and its properties
pub data HookAnswer : Type 0 where
  Fresh : (properties : List Item) → HookAnswer
  Written : (ctxt : ℕ) (notes : ExportMetadata) (properties : List Item) → HookAnswer

-- answers that are all fresh
abbrev pub all_fresh : (ℕ → Option (List Item)) → ℕ → Option HookAnswer
all_fresh given m = option_map Fresh (given m)

-- whether it is an object that is written already
abbrev pub stands_written : Option HookAnswer → Bool
stands_written (Some (Written ctxt notes properties)) = true
stands_written _ = false

-- each answer is fresh: no object of `import.meta` is written already
abbrev pub AreFresh : (ℕ → Option HookAnswer) → Type 0
AreFresh answers =
    (m ctxt : ℕ) (notes : ExportMetadata) (properties : List Item) →
    answers m ≡ Some (Written ctxt notes properties) → ⊥

-- what has a context of its own: the top of a module; a scope inside it, by where its node begins;
-- a scope inside what the hook answered for it; a binding inside the object that is written
-- already, by its context; a label; the parameter and the variable of the helper
pub data Holder : Type 0 where
  TopOf : (m : ℕ) → Holder
  InsideOf : (m begins : ℕ) → Holder
  AnsweredOf : (m begins : ℕ) → Holder
  WrittenIn : (m ctxt : ℕ) → Holder
  NameOf : Label → Holder
  HelperParameter : Holder
  HelperVariable : Holder

-- the contexts of a bundle
abbrev pub BundleContexts : Type 0
BundleContexts = Holder → ℕ

-- the context of the scope of this order in a list: the first two are the wrapper and the top
abbrev pub context_in_order : ℕ → (ℕ → ℕ) → ℕ → ℕ
context_in_order top inside order = if nat_lt order 2 then top else inside (order - 2)

-- the contexts of the bindings of a module
abbrev pub numbers_in : BundleContexts → ℕ → Numbering
numbers_in context m order x =
    context_in_order (context (TopOf m)) (λ b. context (InsideOf m b)) order

-- those of what the hook answered for it, as it stands alone
abbrev pub numbers_answered : BundleContexts → ℕ → Numbering
numbers_answered context m order x =
    context_in_order (context (TopOf m)) (λ b. context (AnsweredOf m b)) order

-- which identifier stands for a label: a declared name and a parameter of a CommonJS module keep
-- their symbols and have the context of their module's top; what the linker adds is called as it
-- calls it, and has a context of its own
abbrev pub ident_of_label : Program → List ℕ → BundleContexts → Label → Ident
ident_of_label p list context (Of (Declared m x)) = (x, context (TopOf m))
ident_of_label p list context (Parameter c x) = (x, context (TopOf c))
ident_of_label p list context l = (symbol_of_label p list l, context (NameOf l))

-- the name of a default export that has none of its own
abbrev pub default_ident : BundleContexts → ℕ → Ident
default_ident context m = (codes "default", context (TopOf m))
