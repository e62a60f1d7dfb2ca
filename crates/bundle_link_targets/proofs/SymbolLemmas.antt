-- What targets are called is noted, the first of each.
use Rattle.std.proofs.Common.{◌≡◌, Bool, true, false, List, [], ◌∷◌, ◌++◌, Option, Some, None, cond, refl, sym, ap, ◌∙◌, option_map, if◌then◌else◌}
use Rattle.std.specs.Prelude.{find, is_some}
use Rattle.std.specs.Borrow.{Bor}
use Rattle.std.specs.HashMap.{HashMap, UpdatesBy, get_by}
use Rattle.std.specs.Map.{lookup}
use Rattle.std.specs.Option.{option_or}
use Rattle.std.proofs.lemmas.List.Folds.{find-append}
use Rattle.std.proofs.lemmas.Option.{none-some}
use Rattle.bundle_rules.specs.Nodes.{Text}
use Rattle.bundle_rules.specs.Linking as l
use Rattle.bundle_link_tables.specs.declared.table.Taken.TheVariants as k
use Rattle.bundle_link_index.specs.contracts.target.TargetRefPartialEq.TheImpl as target_impl
use Rattle.bundle_link_index.specs.declared.target.TargetRef.{TargetRef}
use Rattle.bundle_link_index.specs.declared.target.TargetRef.TheVariants as t
use Rattle.bundle_link_index.specs.Says.{target_of}
use Rattle.bundle_link_index.proofs.EqualLemmas as equal
use Rattle.bundle_link_targets.specs.Symbols.{Called, Calls, called_first, same_target}

-- ---- targets compare so
pub eq-same : (a b : TargetRef) → target_impl.ghosts.eq a b ≡ same_target (target_of a) (target_of b)
eq-same (t.Declared m x) (t.Declared n y) = refl
eq-same (t.Declared m x) (t.Namespace n) = refl
eq-same (t.Declared m x) (t.External s its) = refl
eq-same (t.Declared m x) (t.CommonJs a n its) = refl
eq-same (t.Namespace m) (t.Declared n y) = refl
eq-same (t.Namespace m) (t.Namespace n) = refl
eq-same (t.Namespace m) (t.External s its) = refl
eq-same (t.Namespace m) (t.CommonJs a n its) = refl
eq-same (t.External s its) (t.Declared n y) = refl
eq-same (t.External s its) (t.Namespace n) = refl
eq-same (t.External s (k.Named x)) (t.External r (k.Named y)) = refl
eq-same (t.External s (k.Named x)) (t.External r k.Whole) = refl
eq-same (t.External s k.Whole) (t.External r (k.Named y)) = refl
eq-same (t.External s k.Whole) (t.External r k.Whole) = refl
eq-same (t.External s its) (t.CommonJs a n other) = refl
eq-same (t.CommonJs a m its) (t.Declared n y) = refl
eq-same (t.CommonJs a m its) (t.Namespace n) = refl
eq-same (t.CommonJs a m its) (t.External s other) = refl
eq-same (t.CommonJs a m (k.Named x)) (t.CommonJs b n (k.Named y)) = refl
eq-same (t.CommonJs a m (k.Named x)) (t.CommonJs b n k.Whole) = refl
eq-same (t.CommonJs a m k.Whole) (t.CommonJs b n (k.Named y)) = refl
eq-same (t.CommonJs a m k.Whole) (t.CommonJs b n k.Whole) = refl

or-none : (o : Option Called) → option_or o None ≡ o
or-none None = refl
or-none (Some x) = refl

-- the first of more
called-more : (target : l.Target) (before : List Called) (pair : Called) → called_first target (before ++ pair ∷ []) ≡ option_map (λ (p : Called). p.1) (option_or (find (λ (p : Called). same_target target p.0) before) (if same_target target pair.0 then Some pair else None))
called-more target before pair = ap (option_map (λ (p : Called). p.1)) (find-append (λ (p : Called). same_target target p.0) before (pair ∷ []))

pub map-none-back : {A B : Type 0} (f : A → B) (o : Option A) → option_map f o ≡ None → o ≡ None
map-none-back f None e = refl
map-none-back f (Some x) e = absurd (none-some (f x) (sym e))

pub not-some : {A : Type 0} (o : Option A) → is_some o ≡ false → o ≡ None
not-some None e = refl
not-some (Some x) e = cc

pub calls-noted : {S : Type 0} (m n : HashMap TargetRef (Bor Text) S) (before : List Called) (own : TargetRef) (symbol : Bor Text) → Calls m before → is_some (get_by (target_impl.ghosts.eq own) m) ≡ false → UpdatesBy target_impl.ghosts.eq (target_impl.ghosts.eq own) m n (Some symbol) → Calls n (before ++ (target_of own, symbol.now) ∷ [])
calls-noted m n before own symbol known free put q = ap (option_map (λ (x : Bor Text). x.now)) (put.0 q) ∙ by (target_impl.ghosts.eq own q) refl ∙ sym (called-more (target_of q) before (target_of own, symbol.now))
  where
    by : (b : Bool) → target_impl.ghosts.eq own q ≡ b → option_map (λ (x : Bor Text). x.now) (cond b (Some symbol) (get_by (target_impl.ghosts.eq q) m)) ≡ option_map (λ (p : Called). p.1) (option_or (find (λ (p : Called). same_target (target_of q) p.0) before) (if same_target (target_of q) (target_of own) then Some (target_of own, symbol.now) else None))
    by true is =
        let same : target_of own ≡ target_of q = (equal.target own q).0 is in
        let none : called_first (target_of own) before ≡ None = sym (known own) ∙ ap (option_map (λ (x : Bor Text). x.now)) (not-some (get_by (target_impl.ghosts.eq own) m) free) in
        let missing : find (λ (p : Called). same_target (target_of q) p.0) before ≡ None = map-none-back (λ (p : Called). p.1) (find (λ (p : Called). same_target (target_of q) p.0) before) (ap (λ x. called_first x before) (sym same) ∙ none) in
        let here : same_target (target_of q) (target_of own) ≡ true = sym (eq-same q own) ∙ (equal.target q own).1 (sym same) in
        sym (ap (λ o. option_map (λ (p : Called). p.1) (option_or o (if same_target (target_of q) (target_of own) then Some (target_of own, symbol.now) else None))) missing
        ∙ ap (λ (b : Bool). option_map (λ (p : Called). p.1) (if b then Some (target_of own, symbol.now) else None)) here)
    by false is =
        let other : same_target (target_of q) (target_of own) ≡ false = sym (eq-same q own) ∙ flip (target_impl.ghosts.eq q own) refl in
        known q ∙ sym (ap (λ (b : Bool). option_map (λ (p : Called). p.1) (option_or (find (λ (p : Called). same_target (target_of q) p.0) before) (if b then Some (target_of own, symbol.now) else None))) other
        ∙ ap (option_map (λ (p : Called). p.1)) (or-none (find (λ (p : Called). same_target (target_of q) p.0) before)))
      where
        flip : (b : Bool) → target_impl.ghosts.eq q own ≡ b → target_impl.ghosts.eq q own ≡ false
        flip true same = let both : target_impl.ghosts.eq own q ≡ true = (equal.target own q).1 (sym ((equal.target q own).0 same)) in cc
        flip false same = same

pub calls-kept : {S : Type 0} (m : HashMap TargetRef (Bor Text) S) (before : List Called) (own : TargetRef) (symbol : Text) → Calls m before → is_some (get_by (target_impl.ghosts.eq own) m) ≡ true → Calls m (before ++ (target_of own, symbol) ∷ [])
calls-kept m before own symbol known there q = known q ∙ by (same_target (target_of q) (target_of own)) refl ∙ sym (called-more (target_of q) before (target_of own, symbol))
  where
    some-there : (o : Option (Bor Text)) → is_some o ≡ true → (c : Option Called) → option_map (λ (x : Bor Text). x.now) o ≡ option_map (λ (p : Called). p.1) c → (p : Called) × (c ≡ Some p)
    some-there None e c same = cc
    some-there (Some x) e None same = cc
    some-there (Some x) e (Some p) same = (p, refl)

    by : (b : Bool) → same_target (target_of q) (target_of own) ≡ b → called_first (target_of q) before ≡ option_map (λ (p : Called). p.1) (option_or (find (λ (p : Called). same_target (target_of q) p.0) before) (if same_target (target_of q) (target_of own) then Some (target_of own, symbol) else None))
    by true is =
        let same : target_of q ≡ target_of own = (equal.target q own).0 (eq-same q own ∙ is) in
        let first = some-there (get_by (target_impl.ghosts.eq own) m) there (find (λ (p : Called). same_target (target_of own) p.0) before) (known own) in
        let here : find (λ (p : Called). same_target (target_of q) p.0) before ≡ Some first.0 = ap (λ x. find (λ (p : Called). same_target x p.0) before) same ∙ first.1 in
        ap (option_map (λ (p : Called). p.1)) here ∙ sym (ap (λ o. option_map (λ (p : Called). p.1) (option_or o (if same_target (target_of q) (target_of own) then Some (target_of own, symbol) else None))) here)
    by false is =
        sym (ap (λ (b : Bool). option_map (λ (p : Called). p.1) (option_or (find (λ (p : Called). same_target (target_of q) p.0) before) (if b then Some (target_of own, symbol) else None))) is
        ∙ ap (option_map (λ (p : Called). p.1)) (or-none (find (λ (p : Called). same_target (target_of q) p.0) before)))

-- ---- what is called so
abbrev pub one-called : Text → TargetRef → Called
one-called s target = (target_of target, s)

abbrev pub so-called : Text → l.Target → Called
so-called s target = (target, s)

pub pair-is : (o : Option TargetRef) (named : Option l.Target) (s : Text) → option_map target_of o ≡ named → option_map (one-called s) o ≡ option_map (so-called s) named
pair-is None named s e = ap (option_map (so-called s)) e
pair-is (Some target) named s e = ap (option_map (so-called s)) e

pub calls-nothing : {S : Type 0} (m : HashMap TargetRef (Bor Text) S) → m.entries ≡ [] → Calls m []
calls-nothing m none q = ap (λ es. option_map (λ (x : Bor Text). x.now) (lookup (target_impl.ghosts.eq q) es)) none

pub pair-called : (o : Option TargetRef) (named : Option l.Target) (s r : Text) → option_map target_of o ≡ named → s ≡ r → option_map (one-called s) o ≡ option_map (so-called r) named
pair-called o named s r e same = pair-is o named s e ∙ ap (λ x. option_map (so-called x) named) same
