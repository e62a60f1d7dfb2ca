-- Two targets, and two values, are equal exactly where they say the same.
use Rattle.std.proofs.Common.{◌≡◌, Bool, false, ◌&&◌, refl, ap, ap₂, ◌∙◌, Option, Some, None, option_map}
use Rattle.std.specs.Bool.{Decides}
use Rattle.std.specs.Option.{option_eq}
use Rattle.std.proofs.lemmas.Bool.{false≢true}
use Rattle.std.proofs.lemmas.Bool.Decides.{Decides-eqb, Decides-and, Decides-like}
use lib.Pointwise.{bytes_decides}
use Rattle.bundle_rules.specs.Entries as e
use Rattle.bundle_rules.specs.Linking as l
use Rattle.bundle_link_tables.specs.TablesOf.{taken_of}
use Rattle.bundle_link_tables.specs.declared.table.Taken.{Taken}
use Rattle.bundle_link_tables.specs.declared.table.Taken.TheVariants as k
use Rattle.bundle_link_tables.specs.contracts.table.TakenPartialEq.TheImpl as taken_impl
use Rattle.bundle_link_index.specs.declared.target.TargetRef.{TargetRef}
use Rattle.bundle_link_index.specs.declared.target.TargetRef.TheVariants as t
use Rattle.bundle_link_index.specs.declared.own.Asked.{Asked}
use Rattle.bundle_link_index.specs.declared.own.GivenTarget.{GivenTarget}
use Rattle.bundle_link_index.specs.contracts.target.TargetRefPartialEq.TheImpl as target_impl
use Rattle.bundle_link_index.specs.contracts.own.AskedPartialEq.TheImpl as asked_impl
use Rattle.bundle_link_index.specs.contracts.own.GivenTargetPartialEq.TheImpl as given_impl
use Rattle.bundle_link_index.specs.Linked.{Value}
use Rattle.bundle_link_index.specs.Says.{target_of, origin_of, value_of}

both : {P Q R : Type 0} (x y : Bool) → Decides x P → Decides y Q → (P × Q → R) → (R → P × Q) → Decides (x && y) R
both x y p q to from = Decides-like (x && y) to from (Decides-and x y p q)

pub never : {R : Type 0} → (R → ⊥) → Decides false R
never not = (λ so. absurd (false≢true so), λ is. absurd (not is))

pub taken : (a b : Taken) → Decides (taken_impl.ghosts.eq a b) (taken_of a ≡ taken_of b)
taken (k.Named x) (k.Named y) = Decides-like _ (ap e.Named) (λ is. let same : x.now ≡ y.now = cc in same) (bytes_decides x.now y.now)
taken (k.Named x) k.Whole = never (λ is. cc)
taken k.Whole (k.Named y) = never (λ is. cc)
taken k.Whole k.Whole = (λ so. refl, λ is. refl)

pub target : (a b : TargetRef) → Decides (target_impl.ghosts.eq a b) (target_of a ≡ target_of b)
target (t.Declared m x) (t.Declared n y) = both _ _ (Decides-eqb m n) (bytes_decides x.now y.now) (λ p. ap₂ l.Declared p.0 p.1) (λ is. let one : m ≡ n = cc in let two : x.now ≡ y.now = cc in (one, two))
target (t.Declared m x) (t.Namespace n) = never (λ is. cc)
target (t.Declared m x) (t.External s its) = never (λ is. cc)
target (t.Declared m x) (t.CommonJs a n its) = never (λ is. cc)
target (t.Namespace m) (t.Declared n y) = never (λ is. cc)
target (t.Namespace m) (t.Namespace n) = Decides-like _ (ap l.Namespace) (λ is. let one : m ≡ n = cc in one) (Decides-eqb m n)
target (t.Namespace m) (t.External s its) = never (λ is. cc)
target (t.Namespace m) (t.CommonJs a n its) = never (λ is. cc)
target (t.External s its) (t.Declared n y) = never (λ is. cc)
target (t.External s its) (t.Namespace n) = never (λ is. cc)
target (t.External s its) (t.External r other) = both _ _ (bytes_decides s.now r.now) (taken its other) (λ p. ap₂ l.External p.0 p.1) (λ is. let one : s.now ≡ r.now = cc in let two : taken_of its ≡ taken_of other = cc in (one, two))
target (t.External s its) (t.CommonJs a n other) = never (λ is. cc)
target (t.CommonJs a m its) (t.Declared n y) = never (λ is. cc)
target (t.CommonJs a m its) (t.Namespace n) = never (λ is. cc)
target (t.CommonJs a m its) (t.External s other) = never (λ is. cc)
target (t.CommonJs a m its) (t.CommonJs b n other) =
    both _ _ (Decides-eqb a b) (both _ _ (Decides-eqb m n) (taken its other) (λ p. p) (λ p. p))
    (λ p. ap (λ k. l.CommonJs k m (taken_of its)) p.0 ∙ ap₂ (l.CommonJs b) p.1.0 p.1.1)
    (λ is. let one : a ≡ b = cc in let two : m ≡ n = cc in let three : taken_of its ≡ taken_of other = cc in (one, (two, three)))

asked : (a b : Asked) → Decides (asked_impl.ghosts.eq a b) (origin_of a ≡ origin_of b)
asked a b = both _ _ (Decides-eqb a.which b.which) (bytes_decides a.name.now b.name.now)
    (λ p i. record { which = p.0 i; local = p.1 i })
    (λ is. (ap (λ (o : l.Origin). o.which) is, ap (λ (o : l.Origin). o.local) is))

option : {A B : Type 0} (E : A → A → Bool) (f : A → B) → ((x y : A) → Decides (E x y) (f x ≡ f y)) → (a b : Option A) → Decides (option_eq E a b) (option_map f a ≡ option_map f b)
option E f each None None = (λ so. refl, λ is. refl)
option E f each None (Some y) = never (λ is. cc)
option E f each (Some x) None = never (λ is. cc)
option E f each (Some x) (Some y) = Decides-like _ (λ is. ap (λ z. Some z) is) (λ is. let same : f x ≡ f y = cc in same) (each x y)

pub given : (a b : GivenTarget) → Decides (given_impl.ghosts.eq a b) (value_of a ≡ value_of b)
given a b = both _ _ (target a.target b.target) (option asked_impl.ghosts.eq origin_of asked a.origin b.origin)
    (λ p. ap₂ (λ (x : l.Target) (y : Option l.Origin). let value : Value = (x, y) in value) p.0 p.1)
    (λ is. (ap (λ (value : Value). value.0) is, ap (λ (value : Value). value.1) is))
