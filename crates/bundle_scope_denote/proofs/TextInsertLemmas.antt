-- What tests of keys find once a key is inserted.
use Rattle.std.proofs.Common.{◌≡◌, Bool, true, false, cond, ◌||◌, List, [], ◌∷◌, ◌++◌, Some, refl, sym, ap, ◌∙◌, true≢false, if◌then◌else◌, append-nil, Vec, Global}
use Rattle.std.specs.Cmp.{IsEquivalence}
use Rattle.std.specs.List.{list_any}
use Rattle.std.specs.Map as map
use Rattle.std.specs.Map.{IsKeyTest, lookup}
use Rattle.std.specs.Set as set
use Rattle.std.proofs.lemmas.List.Folds.{Any-from_list_any, list_any_at, list_any-append}
use Rattle.indexmap.specs.IndexMap as m
use Rattle.indexmap.specs.IndexMap.{IndexMap, insert_entry}
use Rattle.indexmap.specs.IndexSet as s
use Rattle.indexmap.specs.IndexSet.{IndexSet, insert_key}
use Rattle.bundle_scope_denote.specs.texts.Seen.{list_of}

module _ {K : Type 0} (eq : K → K → Bool) (laws : IsEquivalence eq) where
  of_key : (q : K) → IsKeyTest eq (eq q)
  of_key q x y e = laws.congr q x y e

  -- equal keys pass the same tests
  same_test : (t : K → Bool) → IsKeyTest eq t → (x y : K) → eq x y ≡ true → t y ≡ t x
  same_test t key x y same = by (t x) (t y) refl refl
    where
      by : (a b : Bool) → t x ≡ a → t y ≡ b → t y ≡ t x
      by true b p q = key x y p ∙ same ∙ sym p
      by false true p q = absurd (true≢false (sym (key y x q ∙ laws.symm y x ∙ same) ∙ p))
      by false false p q = q ∙ sym p

  pub lookup-insert : {V : Type 0} (t : K → Bool) → IsKeyTest eq t → (es : List (K × V)) (k : K) (v : V) → lookup t (insert_entry eq es k v) ≡ cond (t k) (Some v) (lookup t es)
  lookup-insert t key [] k v = refl
  lookup-insert {V} t key (e ∷ es) k v = by (eq k e.0) (t k) refl refl (lookup-insert t key es k v)
    where
      goes : (b : Bool) → eq k e.0 ≡ b → lookup t (insert_entry eq (e ∷ es) k v) ≡ lookup t (if b then (e.0, v) ∷ es else e ∷ insert_entry eq es k v)
      goes b p = ap (λ x. lookup t (if x then (e.0, v) ∷ es else e ∷ insert_entry eq es k v)) p

      by : (b c : Bool) → eq k e.0 ≡ b → t k ≡ c → lookup t (insert_entry eq es k v) ≡ cond (t k) (Some v) (lookup t es)
          → lookup t (insert_entry eq (e ∷ es) k v) ≡ cond (t k) (Some v) (lookup t (e ∷ es))
      by true true p q rest =
          goes true p ∙ ap (λ x. cond x (Some v) (lookup t es)) (same_test t key k e.0 p ∙ q) ∙ sym (ap (λ x. cond x (Some v) (lookup t (e ∷ es))) q)
      by true false p q rest =
          let no = same_test t key k e.0 p ∙ q in
          goes true p ∙ ap (λ x. cond x (Some v) (lookup t es)) no ∙ sym (ap (λ x. cond x (Some e.1) (lookup t es)) no) ∙ sym (ap (λ x. cond x (Some v) (lookup t (e ∷ es))) q)
      by false true p q rest =
          let no = key k e.0 q ∙ p in
          goes false p ∙ ap (λ x. cond x (Some e.1) (lookup t (insert_entry eq es k v))) no ∙ rest
          ∙ ap (λ x. cond x (Some v) (lookup t es)) q ∙ sym (ap (λ x. cond x (Some v) (lookup t (e ∷ es))) q)
      by false false p q rest =
          goes false p ∙ ap (λ x. cond (t e.0) (Some e.1) x) (rest ∙ ap (λ x. cond x (Some v) (lookup t es)) q)
          ∙ sym (ap (λ x. cond x (Some v) (lookup t (e ∷ es))) q)

  found_again : (t : K → Bool) → IsKeyTest eq t → (ks : List K) (k : K) → list_any (eq k) ks ≡ true → t k ≡ true → list_any t ks ≡ true
  found_again t key ks k there passes =
      let any = Any-from_list_any (eq k) ks there in
      let at = ap t any.3 ∙ same_test t key k any.1 any.4 ∙ passes in
      list_any_at t ks any.0 any.1 any.2 at

  pub list_any-insert : (t : K → Bool) → IsKeyTest eq t → (ks : List K) (k : K) → list_any t (insert_key eq ks k) ≡ cond (t k) true (list_any t ks)
  list_any-insert t key ks k = by (list_any (eq k) ks) (t k) refl refl
    where
      goes : (b : Bool) → list_any (eq k) ks ≡ b → list_any t (insert_key eq ks k) ≡ list_any t (if b then ks else ks ++ k ∷ [])
      goes b p = ap (λ x. list_any t (if x then ks else ks ++ k ∷ [])) p

      one_more : (a b : Bool) → (a || (b || false)) ≡ cond b true a
      one_more true true = refl
      one_more true false = refl
      one_more false true = refl
      one_more false false = refl

      by : (b c : Bool) → list_any (eq k) ks ≡ b → t k ≡ c → list_any t (insert_key eq ks k) ≡ cond (t k) true (list_any t ks)
      by true true p q = goes true p ∙ found_again t key ks k p q ∙ sym (ap (λ x. cond x true (list_any t ks)) q)
      by true false p q = goes true p ∙ sym (ap (λ x. cond x true (list_any t ks)) q)
      by false c p q = goes false p ∙ list_any-append t ks (k ∷ []) ∙ one_more (list_any t ks) (t k)

  turned : {A : Type 0} (k q : K) (x y : A) → cond (eq q k) x y ≡ cond (eq k q) x y
  turned k q x y = ap (λ b. cond b x y) (laws.symm q k)

  pub map-updates : {V S : Type 0} (old new : IndexMap K V S) (k : K) (v : V) → new.entries ≡ insert_entry eq old.entries k v → m.Updates eq old new k (Some v)
  unfolding map.KeepsOthers
  map-updates old new k v e =
      let found : (t : K → Bool) → IsKeyTest eq t → lookup t new.entries ≡ cond (t k) (Some v) (lookup t old.entries)
      = λ t key. ap (lookup t) e ∙ lookup-insert t key old.entries k v in (
        (λ q. found (eq q) (of_key q) ∙ turned k q (Some v) (lookup (eq q) old.entries)),
        found (eq k) (of_key k) ∙ ap (λ b. cond b (Some v) (lookup (eq k) old.entries)) (laws.refl k),
        (λ q apart. found (eq q) (of_key q) ∙ ap (λ b. cond b (Some v) (lookup (eq q) old.entries)) (laws.symm q k ∙ apart)),
        (λ other key apart. found other key ∙ ap (λ b. cond b (Some v) (lookup other old.entries)) (apart k (laws.refl k))),
      )

  pub set-updates : {S : Type 0} (old new : IndexSet K S) (k : K) → new.keys ≡ insert_key eq old.keys k → s.Updates eq old new k true
  unfolding set.KeepsOthers
  set-updates old new k e =
      let found : (t : K → Bool) → IsKeyTest eq t → list_any t new.keys ≡ cond (t k) true (list_any t old.keys)
      = λ t key. ap (list_any t) e ∙ list_any-insert t key old.keys k in (
        (λ q. found (eq q) (of_key q) ∙ turned k q true (list_any (eq q) old.keys)),
        found (eq k) (of_key k) ∙ ap (λ b. cond b true (list_any (eq k) old.keys)) (laws.refl k),
        (λ q apart. found (eq q) (of_key q) ∙ ap (λ b. cond b true (list_any (eq q) old.keys)) (laws.symm q k ∙ apart)),
        (λ other key apart. found other key ∙ ap (λ b. cond b true (list_any other old.keys)) (apart k (laws.refl k))),
      )

  -- where one list gets one item more, each key has its list with it, if it is its own
  pub list-pushed : {T S : Type 0} (old new : IndexMap K (Vec T Global) S) (key : K) (own : Vec T Global) (item : T) → m.Updates eq old new key (Some own)
      → own.items ≡ list_of (m.get eq old key) ++ item ∷ [] → (other : K)
      → list_of (m.get eq new other) ≡ list_of (m.get eq old other) ++ (if eq key other then item ∷ [] else [])
  list-pushed old new key own item updates more other = by (eq key other) refl
    where
      by : (b : Bool) → eq key other ≡ b → list_of (m.get eq new other) ≡ list_of (m.get eq old other) ++ (if eq key other then item ∷ [] else [])
      by true same =
          let alike : m.get eq old key ≡ m.get eq old other = ap (λ (t : K → Bool). lookup t old.entries) (λ j z. laws.congr key other z same j) in
          ap list_of (updates.0 other ∙ ap (λ b. cond b (Some own) (m.get eq old other)) same) ∙ more ∙ ap (λ o. list_of o ++ item ∷ []) alike
          ∙ sym (ap (λ b. list_of (m.get eq old other) ++ (if b then item ∷ [] else [])) same)
      by false apart =
          ap list_of (updates.0 other ∙ ap (λ b. cond b (Some own) (m.get eq old other)) apart) ∙ sym (append-nil (list_of (m.get eq old other)))
          ∙ sym (ap (λ b. list_of (m.get eq old other) ++ (if b then item ∷ [] else [])) apart)
