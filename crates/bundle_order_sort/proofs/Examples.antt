-- Examples of what is promised of the order of items.
use Rattle.std.proofs.Common.{◌≡◌, true, false, ℕ, List, [], ◌∷◌, length, get_or, Contains, refl, sym, ap, ◌∙◌, subst, arith}
use Rattle.std.proofs.lemmas.Bool.{false≢true}
use Rattle.std.proofs.lemmas.Option.{same_Some}
use Rattle.bundle_order_graph.specs.Walks.{itself, Path}
use Rattle.bundle_order_sort.specs.declared.Reference.{Reference}
use Rattle.bundle_order_sort.specs.declared.SharedItem.{SharedItem}
use Rattle.bundle_order_sort.specs.Numbers.{IsListedBefore}
use Rattle.bundle_order_sort.specs.Items.{ShareModule, NamesShared, DependsShared, NeedsShared, IsGoodItemOrder}

-- in the order 0, 1 the one stands before the other
first_before_second : IsListedBefore (0 ∷ 1 ∷ []) 0 1
first_before_second = record { i = 0; j = 1; before = omega arith; first = refl; second = refl }

only_one : (x y : Reference) → Contains (x ∷ []) y → x ≡ y
only_one x y c = let P : ℕ → Type 0 = λ i. get_or (x ∷ []) i y ≡ y in subst P (let first : c.0 ≡ 0 = omega (arith, c.1) in first) c.2

-- the first list has the second item, the second list the first
abbrev pub lists : List (List ℕ)
lists = (1 ∷ []) ∷ (0 ∷ []) ∷ []

-- two items of two modules, neither of them free
module _ (a b : SharedItem) (a_module : a.which ≡ 0) (b_module : b.which ≡ 1) where
  apart : ShareModule (a ∷ b ∷ []) 0 1 → ⊥
  apart h = omega (arith, a_module, b_module, h.one.own, h.other.own, ap (λ i. i.which) (same_Some a h.one.item h.one.at), ap (λ i. i.which) (same_Some b h.other.item h.other.at))

  -- `_9[0] = 133;` and `const _9 = new ByteArray(32);`: the first depends on the second, which depends on nothing
  module _ (one : a.references.items ≡ record { list = 0; is_weak = false } ∷ []) (none : b.references.items ≡ []) where
    nothing_back : Path (DependsShared (a ∷ b ∷ []) lists) 1 0 → ⊥
    nothing_back p = omega (arith, p.1.1.refers.listed.1, ap length (ap (λ i. i.references.items) (sym (same_Some b p.1.1.refers.item p.1.1.refers.at)) ∙ none))

    needs : NeedsShared (a ∷ b ∷ []) lists 0 1
    needs = record {
      is_weak = false;
      named = record {
        list = 0;
        refers = record { item = a; at = refl; listed = subst (λ (l : List Reference). Contains l (record { list = 0; is_weak = false })) (sym one) (0, omega arith, refl) };
        listed = (0, omega arith, refl);
        within = omega arith;
        other = λ e. omega (arith, e);
      };
      apart = apart;
      strong = λ e. absurd (false≢true e);
    }

    -- so they may not stay as they stand
    pub stays-refused : IsGoodItemOrder (a ∷ b ∷ []) lists (0 ∷ 1 ∷ []) → ⊥
    stays-refused g = nothing_back (g.needed 0 1 needs first_before_second).0

  -- `function f() { return b; } f();` and `const b = f;`: each depends on the other, the first weakly
  module _ (weak : a.references.items ≡ record { list = 0; is_weak = true } ∷ []) (strong : b.references.items ≡ record { list = 1; is_weak = false } ∷ []) where
    back : Path (DependsShared (a ∷ b ∷ []) lists) 1 0
    back =
        let named : NamesShared (a ∷ b ∷ []) lists 1 0 false = record {
          list = 1;
          refers = record { item = b; at = refl; listed = subst (λ (l : List Reference). Contains l (record { list = 1; is_weak = false })) (sym strong) (0, omega arith, refl) };
          listed = (0, omega arith, refl);
          within = omega arith;
          other = λ e. omega (arith, e);
        } in
        (0, (false, named), itself)

    -- the weak one is no need, since the strong one leads back
    pub weak-unneeded : NeedsShared (a ∷ b ∷ []) lists 0 1 → ⊥
    weak-unneeded n = n.strong (is_weak (same_Some a n.named.refers.item n.named.refers.at) n.named.refers.listed) back
      where
        is_weak : a ≡ n.named.refers.item → Contains n.named.refers.item.references.items (record { list = n.named.list; is_weak = n.is_weak }) → n.is_weak ≡ true
        is_weak e c = sym (ap (λ r. r.is_weak) (only_one (record { list = 0; is_weak = true }) (record { list = n.named.list; is_weak = n.is_weak }) (subst (λ (l : List Reference). Contains l (record { list = n.named.list; is_weak = n.is_weak })) (ap (λ i. i.references.items) (sym e) ∙ weak) c)))
