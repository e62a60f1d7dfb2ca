-- Contexts for bindings that get another symbol.
use Rattle.std.specs.Prelude.{◌≡◌, ◌<◌, ◌≤◌, ℕ, ◌==◌, ◌&&◌, ◌||◌, Bool, true, false, List, Option, Some, None, bytes_eq, codes, length, nat_eq, slice_get, option_and_then, MatchBool}
use Rattle.std.specs.Borrow.{Bor}
use Rattle.std.specs.List.{list_any, starts_with}
use Rattle.bundle_syntax.specs.declared.piece.Role.{Role}
use Rattle.bundle_syntax.specs.declared.piece.Role.TheVariants as o
use Rattle.bundle_syntax.specs.Item as h
use Rattle.bundle_syntax.specs.Item.{Item}
use Rattle.bundle_rules.specs.Nodes.{Text}
use Rattle.bundle_scope_denote.specs.declared.table.Binding.{Binding}
use Rattle.bundle_scope_names.specs.declared.keywords.TakenNames.{TakenNames}
use Rattle.bundle_scope_names.specs.Called.{at}

-- whether an identifier binds or refers
abbrev pub occurs : Role → Bool
occurs o.Word = false
occurs o.Binding = true
occurs o.Reference = true

-- whether an element is such an identifier with this context, and with this symbol too
abbrev pub has_context : ℕ → Item → Bool
has_context ctxt (h.Ident field sym its role) = occurs role && ctxt == its
has_context ctxt _ = false

abbrev pub has_occurrence : Text → ℕ → Item → Bool
has_occurrence text ctxt (h.Ident field sym its role) =
    occurs role && (ctxt == its && bytes_eq text sym)
has_occurrence text ctxt _ = false

-- whether some identifier has a new symbol with the context that it had before
abbrev pub collides : List Item → Option Text → Option ℕ → Bool
collides items None ctxt = false
collides items (Some text) None = false
collides items (Some text) (Some ctxt) = list_any (has_occurrence text ctxt) items

-- a context from 2 on that no identifier has
abbrev pub IsFresh : List Item → Option ℕ → Type 0
IsFresh items None = ⊥
IsFresh items (Some ctxt) = (2 ≤ ctxt) × (list_any (has_context ctxt) items ≡ false)

-- the new context of a binding with this new text and this context: a fresh one exactly where it
-- has to change
abbrev pub IsContextFor : List Item → Option Text → (old new : Option ℕ) → Type 0
IsContextFor items text old new =
    MatchBool (collides items text old) (IsFresh items new) (new ≡ None)

abbrev pub ctxt_of : List Binding → ℕ → Option ℕ
ctxt_of bindings number =
    option_and_then (λ (binding : Binding). binding.ctxt) (slice_get bindings number)

-- the new contexts of bindings with these new texts: no two new ones are the same
pub record AreContexts
    (items : List Item) (bindings : List Binding) (texts : List (Option Text))
    (contexts : List (Option ℕ)) : Type 0 where
  pub len : length contexts ≡ length texts
  pub each : (number : ℕ) →
      number < length texts →
      IsContextFor items (at texts number) (ctxt_of bindings number) (at contexts number)
  pub apart : (i j ctxt : ℕ) → at contexts i ≡ Some ctxt → at contexts j ≡ Some ctxt → i ≡ j

-- whether a symbol stands with a context in a table
abbrev pub has_symbol_at : ℕ → Text → List (ℕ × Bor Text) → Bool
has_symbol_at ctxt text names = list_any (λ name. ctxt == name.0 && bytes_eq text name.1.now) names

-- whether a text begins as those do that stand for reserved words
abbrev pub is_mangled : Text → Bool
is_mangled text = starts_with nat_eq text (codes "__")

-- new texts all begin so
abbrev pub AreMangled : List (Option Text) → Type 0
AreMangled texts =
    (number : ℕ) (text : Text) → at texts number ≡ Some text → is_mangled text ≡ true

-- which names that begin so and which contexts a list has
pub record KnowsNames (items : List Item) (taken : TakenNames) : Type 0 where
  pub names : (ctxt : ℕ) (text : Text) → is_mangled text ≡ true →
      has_symbol_at ctxt text taken.names.keys ≡ list_any (has_occurrence text ctxt) items
  pub contexts : (ctxt : ℕ) →
      list_any (λ other. ctxt == other) taken.contexts.keys ≡ list_any (has_context ctxt) items

-- those of an element are added
pub record AddsNames (item : Item) (old new : TakenNames) : Type 0 where
  pub names : (ctxt : ℕ) (text : Text) → is_mangled text ≡ true →
      has_symbol_at ctxt text new.names.keys
      ≡ (has_symbol_at ctxt text old.names.keys || has_occurrence text ctxt item)
  pub contexts : (ctxt : ℕ) →
      list_any (λ other. ctxt == other) new.contexts.keys
      ≡ (list_any (λ other. ctxt == other) old.contexts.keys || has_context ctxt item)
  pub next : new.next ≡ old.next

-- a context is taken, and later ones are higher
pub record TakesNext (old new : TakenNames) (ctxt : ℕ) : Type 0 where
  pub from : old.next ≤ ctxt
  pub below : ctxt < new.next
  pub free : list_any (λ other. ctxt == other) old.contexts.keys ≡ false
  pub names : new.names.keys ≡ old.names.keys
  pub contexts : new.contexts.keys ≡ old.contexts.keys

-- it is taken where it has to be, or nothing changes
abbrev pub AnswersCollision : (collides : Bool) → (old new : TakenNames) → Option ℕ → Type 0
AnswersCollision true old new (Some ctxt) = TakesNext old new ctxt
AnswersCollision true old new None = ⊥
AnswersCollision false old new (Some ctxt) = ⊥
AnswersCollision false old new None = new ≡ old
