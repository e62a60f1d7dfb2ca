-- Modules of which each has a block of its own, and none requests itself, are in no cycle.
use Rattle.std.proofs.Common.{◌≡◌, ◌⊎◌, ℕ, zero, suc, false, List, [], ◌∷◌, Contains, refl, sym, ◌∙◌, ap, subst, inl, inr, arith}
use Rattle.std.proofs.lemmas.Bool.{false≢true}
use Rattle.bundle_order_graph.specs.Blocks as b
use Rattle.bundle_order_graph.specs.Blocks.{BlocksOf, Members}
use Rattle.bundle_order_graph.specs.Walks.{Reaches, along, itself}
use Rattle.bundle_order_graph.proofs.WalkLemmas.{Reaches-trans}
use Rattle.bundle_order_sort.proofs.BlockLemmas.{Members-has, Members-one}
use Rattle.bundle_rules.proofs.PostOrder.{alone}
use Rattle.bundle_merge_theory.proofs.planned.RequestLemmas.{list-once, list-reached}
use Rattle.bundle_rules.specs.Headline.{IsAcyclic}
use Rattle.bundle_rules.specs.Program.{Program, IsList, IsReached, Requests, SharesBlock, AreBlocks}

none_there : {A : Type 0} {x : A} → Contains [] x → ⊥
none_there (k, less, is) = omega (arith, less)

first_or_more : {A : Type 0} (x : A) (xs : List A) (y : A) → Contains (x ∷ xs) y →
    (x ≡ y) ⊎ Contains xs y
first_or_more x xs y (zero, less, is) = inl is
first_or_more x xs y (suc k, less, is) = inr (k, omega (arith, less), is)

behind : {A : Type 0} (x : A) (xs : List A) (y : A) → Contains xs y → Contains (x ∷ xs) y
behind x xs y (k, less, is) = (suc k, omega (arith, less), is)

module _ (p : Program) where
  share-both : {a b c : ℕ} → SharesBlock p a b → SharesBlock p a c → SharesBlock p b c
  share-both one two =
      (Reaches-trans one.1 two.0, Reaches-trans two.1 one.0, λ e. sym (one.2 e) ∙ two.2 e)

  -- one block has two modules with which a listed one shares its own
  module _ (list : List ℕ) (m n : ℕ) (m_there : Contains list m) (n_there : Contains list n) where
    record HaveBlock (blocks : List (List ℕ)) : Type 0 where
      block : List ℕ
      there : Contains blocks block
      has_m : Contains block m
      has_n : Contains block n

    have-more : (block : List ℕ) (blocks : List (List ℕ)) → HaveBlock blocks →
        HaveBlock (block ∷ blocks)
    have-more block blocks has = record {
      block = has.block;
      there = behind block blocks has.block has.there;
      has_m = has.has_m;
      has_n = has.has_n;
    }

    have-block : (rest : List ℕ) (blocks : List (List ℕ)) →
        BlocksOf (SharesBlock p) list rest blocks → (x : ℕ) → Contains rest x →
        SharesBlock p x m → SharesBlock p x n → HaveBlock blocks
    have-block rest blocks b.over x c one two = absurd (none_there c)
    have-block rest blocks (b.ends {x = y} {rest = more} {block = block} {blocks = others} shares last members left) x c one two =
        elim (first_or_more y more x c) [
          | inl same ↦ record {
            block = block;
            there = (0, omega arith, refl);
            has_m = Members-has list block members m m_there
                (subst (λ z. SharesBlock p z m) (sym same) one);
            has_n = Members-has list block members n n_there
                (subst (λ z. SharesBlock p z n) (sym same) two);
          }
          | inr later ↦ have-more block others (have-block more others left x later one two)
        ]
    have-block rest blocks (b.goes_on {x = y} {rest = more} why left) x c one two =
        elim (first_or_more y more x c) [
          | inl same ↦ elim why [
            | inl not ↦ absurd (not (itself, itself, λ e. refl))
            | inr next ↦
                let both : SharesBlock p x next.0 =
                subst (λ z. SharesBlock p z next.0) same next.2 in
                have-block more blocks left next.0 next.1 (share-both both one) (share-both both two)
          ]
          | inr later ↦ have-block more blocks left x later one two
        ]

  -- so none reach each other
  pub alone-acyclic : (list : List ℕ) → ((m : ℕ) → IsReached p m → Contains list m) →
      (blocks : List (List ℕ)) → AreBlocks p list blocks → p.settings.in_standard_order ≡ false →
      ((block : List ℕ) → Contains blocks block →
      (m : ℕ) × (block ≡ m ∷ []) × (Requests p m m → ⊥)) → IsAcyclic p
  alone-acyclic list all blocks are by_needs each m n reached edge back =
      let m_there = all m reached in
      let n_there = all n (Reaches-trans reached (along edge itself)) in
      let has =
      have-block list m n m_there n_there list blocks are m m_there (itself, itself, λ e. refl)
      (along edge itself, back, λ asked. absurd (false≢true (sym by_needs ∙ asked))) in
      let one = each has.block has.there in
      let is_m : one.0 ≡ m = only one.0 m (subst (λ l. Contains l m) one.1 has.has_m) in
      let is_n : one.0 ≡ n = only one.0 n (subst (λ l. Contains l n) one.1 has.has_n) in
      one.2 (subst (λ k. Requests p k k) (sym is_m) (subst (Requests p m) (sym is_n ∙ is_m) edge))
    where
      only : (k x : ℕ) → Contains (k ∷ []) x → k ≡ x
      only k x c = elim (first_or_more k [] x c) [ inl same ↦ same | inr none ↦ absurd (none_there none) ]

-- ---- the other way round

-- what is chosen of a list is one
members-same : {Has : ℕ → Type 0} {xs ys zs : List ℕ} → Members Has xs ys → Members Has xs zs →
    ys ≡ zs
members-same b.nothing b.nothing = refl
members-same (b.kept {x = x} has one) (b.kept same two) =
    ap (λ l. x ∷ l) (members-same one two)
members-same (b.kept has one) (b.left not two) = absurd (not has)
members-same (b.left not one) (b.kept has two) = absurd (not has)
members-same (b.left not one) (b.left same two) = members-same one two

module _ (p : Program) (acyclic : IsAcyclic p) (list : List ℕ) (is_list : IsList p list) where
  blocks-alone : (rest : List ℕ) (blocks : List (List ℕ)) →
      ((m : ℕ) → Contains rest m → Contains list m) →
      BlocksOf (SharesBlock p) list rest blocks → (block : List ℕ) → Contains blocks block →
      (m : ℕ) × (block ≡ m ∷ []) × IsReached p m
  blocks-alone rest blocks within b.over block there = absurd (none_there there)
  blocks-alone rest blocks within (b.ends {x = x} {rest = more} {block = first} {blocks = others} shares last members left) block there =
      elim (first_or_more first others block there) [
        | inl same ↦
            let x_there = within x (zero, omega arith, refl) in
            let reached = (list-reached p list is_list x).0 x_there in
            let one =
            Members-one list x (list-once p list is_list) x_there shares
            (λ z both. sym (alone p (inl acyclic) x z reached both)) in
            (x, sym same ∙ members-same members one, reached)
        | inr later ↦ blocks-alone more others (λ m c. within m (behind x more m c)) left block later
      ]
  blocks-alone rest blocks within (b.goes_on {x = x} {rest = more} why left) block there =
      blocks-alone more blocks (λ m c. within m (behind x more m c)) left block there

  -- without cycles each block is of one module
  pub acyclic-alone : (blocks : List (List ℕ)) → AreBlocks p list blocks → (block : List ℕ) →
      Contains blocks block → (m : ℕ) × (block ≡ m ∷ []) × IsReached p m
  acyclic-alone blocks are = blocks-alone list blocks (λ m c. c) are
