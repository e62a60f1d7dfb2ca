-- Groups of items that are to be put in order and differ only in how bindings are numbered, and in
-- names that none of the items declares.
use Rattle.std.specs.Prelude.{◌≡◌, ℕ, Option, Some, None, length}
use Rattle.bundle_rules.specs.Order.{Mention, Group, mention_at, Declares}
use Rattle.bundle_order.specs.Renumbered.{IsSameButTop}

-- the binding of this number, if there is one, is declared by no item
abbrev pub IsLoose : Group → Option ℕ → Type 0
IsLoose g None = Unit {0}
IsLoose g (Some b) = (t : ℕ) → Declares g t b → ⊥

-- two mentioned bindings correspond, or no item declares either
pub data TopsAlike (R : ℕ → ℕ → Type 0) (g other : Group) : Option ℕ → Option ℕ → Type 0 where
  same_top : {b c : ℕ} → R b c → TopsAlike R g other (Some b) (Some c)
  loose : {x y : Option ℕ} → IsLoose g x → IsLoose other y → TopsAlike R g other x y

-- two mentions are alike but for numbers
pub record MentionsAlike (R : ℕ → ℕ → Type 0) (g other : Group) (x y : Mention) : Type 0 where
  pub top : TopsAlike R g other x.top y.top
  pub same : IsSameButTop x y

-- groups of the same items, whose bindings correspond one to one
pub record GroupsCorrespond (R : ℕ → ℕ → Type 0) (g other : Group) : Type 0 where
  pub owners : g.owners ≡ other.owners
  pub size : length g.items ≡ length other.items
  pub there : (s i : ℕ) (x : Mention) → mention_at g s i ≡ Some x →
      (y : Mention) × (mention_at other s i ≡ Some y) × MentionsAlike R g other x y
  pub back : (s i : ℕ) (y : Mention) → mention_at other s i ≡ Some y →
      (x : Mention) × (mention_at g s i ≡ Some x) × MentionsAlike R g other x y
  pub one : (b c d : ℕ) → R b c → R b d → c ≡ d
  pub other_one : (b c d : ℕ) → R c b → R d b → c ≡ d
