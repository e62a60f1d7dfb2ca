-- How items are laid out does not depend on the numbers of modules.
use Rattle.std.proofs.Common.{◌≡◌, inl, inr, ◌↔◌, ℕ, zero, suc, Bool, List, [], ◌∷◌, ◌++◌, Option, Some, None, Contains, length, map, refl, sym, ap, ap₂, ◌∙◌, subst, arith}
use Rattle.std.specs.Prelude.{filter, flat_map, option_map, slice_get}
use Rattle.std.specs.List.{AllZip}
use Rattle.std.proofs.lemmas.List.{map-append}
use Rattle.std.proofs.lemmas.List.Elements.{Contains-append_cases}
use Rattle.std.proofs.lemmas.Option.{none-some, same_Some}
use Rattle.bundle_syntax.specs.Item.{Item}
use Rattle.bundle_rules.specs.Nodes.{Text, each_once, has_text}
use Rattle.bundle_rules.specs.Scopes.{Scope}
use Rattle.bundle_rules.specs.Declarations.{Reading}
use Rattle.bundle_rules.specs.Statements.{TopItem, own_statements}
use Rattle.bundle_rules.specs.Entries.{declared_requests}
use Rattle.bundle_rules.specs.Meaning.{Labelling}
use Rattle.bundle_rules.specs.Order.{IsGoodOrder, group_of}
use Rattle.bundle_rules.specs.Places.{Occurrence, occurrences}
use Rattle.bundle_rules.specs.Program.{Program, tree_of, requested, Requests}
use Rattle.bundle_rules.specs.Bundle.{Cause, Own, ImportsNames, ImportsWhole, ImportsNothing, Helps, Defines, Loads, HoldsMeta, HoldsNamespace, Stars, Exports, Form, IsDue, Chosen, nothing, chosen, left, Pairing, StandsFor, IsBlockLaidOut, lone, cycle, AreBlocksLaidOut, over, next, IsLaidOut, import_causes, module_causes, externals, counted, owner_of}
use Rattle.bundle_link.specs.Alike.{IsAlike}
use Rattle.bundle_link_index.proofs.ProgramLemmas.{later, first_or_later, map_back}
use Rattle.bundle_merge_theory.specs.grouped.Alike.{OwnersAlike}
use Rattle.bundle_merge_theory.specs.grouped.Standing.{SameFlags, object_in, ItemsAlike, DenoteTop, StandsInItem, Correspond}
use Rattle.bundle_merge_theory.proofs.grouped.AlikeLemmas.{good_order-corresponds}
use Rattle.bundle_merge_theory.specs.composed.Noted.{pairing_of}
use Rattle.bundle_merge_theory.proofs.planned.CauseLemmas.{Chosen-in}
use Rattle.bundle_merge_theory.proofs.planned.OrderLemmas.{no_element, contains-get}
use Rattle.bundle_link_targets.proofs.ListLemmas.{first-there as here}
use Rattle.bundle_merge_theory.specs.moved.Renumbered.{cause_by}
use Rattle.bundle_merge_theory.proofs.moved.Owed.{AreRenamed, EachModule}
use Rattle.bundle_merge_theory.proofs.moved.Due.{turned-round, due-by, due-named, cause-back}
use Rattle.bundle_link_targets.proofs.StageLemmas.{map_at as mapped-at, at_map as at-mapped}
use Rattle.bundle_merge_theory.proofs.moved.Requested.{AllHave, have-tail, requested-by, requested-named, requests-by, requests-back, name-one, list-by, list-named, blocks-by, blocks-named, follows-by}

-- Lists.

map-twice : {A B C : Type 0} (f : A → B) (g : B → C) (xs : List A) →
    map g (map f xs) ≡ map (λ x. g (f x)) xs
map-twice f g [] = refl
map-twice f g (x ∷ xs) = ap (λ more. g (f x) ∷ more) (map-twice f g xs)

pub head-same : (x y : ℕ) (xs ys : List ℕ) → x ∷ xs ≡ y ∷ ys → x ≡ y
head-same x y xs ys e = same_Some x y (ap (λ (l : List ℕ). slice_get l zero) e)

-- what is chosen of a list, where each element becomes another of which the same holds
chosen-by : {Has Its : Cause → Type 0} (f : Cause → Cause) {xs ys : List Cause} →
    ((x : Cause) → Contains xs x → Has x ↔ Its (f x)) → Chosen Has xs ys →
    Chosen Its (map f xs) (map f ys)
chosen-by f both nothing = nothing
chosen-by f both (chosen {x} {xs} {ys} has more) =
    chosen ((both x (here x xs)).0 has)
    (chosen-by f (λ y there. both y (later x xs y there)) more)
chosen-by f both (left {x} {xs} {ys} not more) =
    left (λ is. not ((both x (here x xs)).1 is))
    (chosen-by f (λ y there. both y (later x xs y there)) more)

-- Owners.

module _ (reading : Reading) (top : Scope) (tree : List Item) where
  same-names : (items : List Item) (test : ℕ → Bool) (os : List Occurrence) →
      AllZip (SameFlags items items test test) os os
  same-names items test [] = tt
  same-names items test (o ∷ os) = (
    record {
      declares = refl;
      later = refl;
      assigned = refl;
      argument = refl;
      chain = refl;
      prototype = refl;
      valueless = refl;
    },
    same-names items test os,
  )

  same-items : (items : List TopItem) →
      AllZip (ItemsAlike reading tree reading tree) items items
  same-items [] = tt
  same-items (item ∷ items) = (
    same-names item.items (object_in reading tree item) (occurrences item.items),
    same-items items,
  )

  same-stands : {items : List TopItem} {s i : ℕ} {x y : TopItem} {o r : Occurrence} →
      StandsInItem items s i x o → StandsInItem items s i y r → (x ≡ y) × (o ≡ r)
  same-stands {i = i} {x = x} {y = y} {o = o} {r = r} one two =
      let same : x ≡ y = same_Some x y (sym one.item_there ∙ two.item_there) in (
        same,
        same_Some o r
            (sym one.there
            ∙ ap (λ (item : TopItem). slice_get (occurrences item.items) i) same ∙ two.there),
      )

  denote-same : {x y x' y' : TopItem} {o r o' r' : Occurrence} → x ≡ x' → o ≡ o' → y ≡ y' →
      r ≡ r' → DenoteTop reading top tree x o y r → DenoteTop reading top tree x' o' y' r'
  denote-same {x = x} {y = y} {x' = x'} {y' = y'} {o = o} {r = r} {o' = o'} {r' = r'} a b c d its =
      subst (λ z. DenoteTop reading top tree x' o' y' z) d
      (subst (λ z. DenoteTop reading top tree x' o' z r) c
      (subst (λ z. DenoteTop reading top tree x' z y r) b
      (subst (λ z. DenoteTop reading top tree z o y r) a its)))

  same-correspond : (items : List TopItem) →
      Correspond reading top tree items reading top tree items
  same-correspond items = record {
    alike = same-items items;
    tops = λ s i t j x y x' y' o r o' r' at_x at_y to_x to_y declares.
        let one = same-stands at_x to_x in
        let two = same-stands at_y to_y in (
          denote-same one.0 one.1 two.0 two.1,
          denote-same (sym one.0) (sym one.1) (sym two.0) (sym two.1),
        );
  }

  -- an order is good whatever numbers the modules have
  owned-order : (items : List TopItem) (owners others : List (Option ℕ)) →
      OwnersAlike owners others → (order : List ℕ) →
      IsGoodOrder (group_of reading top tree items owners) order →
      IsGoodOrder (group_of reading top tree items others) order
  owned-order items owners others alike order good =
      (good_order-corresponds reading top tree items reading top tree items owners others alike
      (same-correspond items) order).0 good

module _ (p q : Program) (R : ℕ → ℕ → Type 0) (name back : ℕ → ℕ)
    (its : AreRenamed p q R name back) where
  abbrev w : IsAlike p q R
  w = its.alike

  abbrev Has : ℕ → Type 0
  Has m = R m (name m)

  abbrev to : Cause → Cause
  to = cause_by name

  -- due there, and only that
  due-both : (form : Form) (cause : Cause) → EachModule Has cause →
      IsDue p form cause ↔ IsDue q form (to cause)
  due-both form cause r = (
    due-by p q R name back its,
    λ is. subst (IsDue p form) (cause-back p q R name back its cause r)
        (due-by q p (λ a b. R b a) back name (turned-round its) is),
  )

  -- Causes.

  abbrev AllCauses : List Cause → Type 0
  AllCauses causes = (cause : Cause) → Contains causes cause → EachModule Has cause

  causes-join : (xs ys : List Cause) → AllCauses xs → AllCauses ys → AllCauses (xs ++ ys)
  causes-join xs ys one two cause there = elim (Contains-append_cases xs ys cause there) [
    | inl a ↦ one cause a
    | inr b ↦ two cause b
  ]

  causes-cons : (x : Cause) (xs : List Cause) → EachModule Has x → AllCauses xs →
      AllCauses (x ∷ xs)
  causes-cons x xs one two cause there = elim (first_or_later x xs cause there) [
    | inl e ↦ subst (EachModule Has) e one
    | inr rest ↦ two cause rest
  ]

  causes-map : {A : Type 0} (f : A → Cause) (xs : List A) →
      ((x : A) → Contains xs x → EachModule Has (f x)) → AllCauses (map f xs)
  causes-map f xs each cause there =
      let was = map_back f xs cause there in
      subst (EachModule Has) was.2 (each was.0 was.1)

  causes-flat : (f : ℕ → List Cause) (xs : List ℕ) → ((x : ℕ) → Contains xs x → AllCauses (f x)) →
      AllCauses (flat_map f xs)
  causes-flat f [] each = λ cause there. absurd (no_element there)
  causes-flat f (x ∷ xs) each =
      causes-join (f x) (flat_map f xs) (each x (here x xs))
      (causes-flat f xs (λ y there. each y (later x xs y there)))

  -- externals
  trees-by : (list : List ℕ) → AllHave Has list →
      flat_map (λ m. declared_requests (tree_of p m)) list
      ≡ flat_map (λ m. declared_requests (tree_of q m)) (map name list)
  trees-by [] all = refl
  trees-by (m ∷ list) all =
      ap₂ (λ (xs ys : List Text). xs ++ ys)
      (ap declared_requests (w.tree m (name m) (all m (here m list))))
      (trees-by list (have-tail Has m list all))

  pub externals-by : (list : List ℕ) → AllHave Has list →
      externals p list ≡ externals q (map name list)
  externals-by list all =
      ap
      (λ outside. each_once
      (filter (λ s. has_text s outside)
      (flat_map (λ m. declared_requests (tree_of p m)) list))) w.external
      ∙ ap (λ texts. each_once (filter (λ s. has_text s q.settings.external) texts))
      (trees-by list all)

  imports-same : (texts : List Text) →
      map to (flat_map import_causes texts) ≡ flat_map import_causes texts
  imports-same [] = refl
  imports-same (s ∷ texts) =
      ap (λ more. ImportsNames s ∷ ImportsWhole s ∷ ImportsNothing s ∷ more) (imports-same texts)

  imports-all : (texts : List Text) → AllCauses (flat_map import_causes texts)
  imports-all [] = λ cause there. absurd (no_element there)
  imports-all (s ∷ texts) =
      let rest : List Cause = flat_map import_causes texts in
      causes-cons (ImportsNames s) (ImportsWhole s ∷ ImportsNothing s ∷ rest) tt
      (causes-cons (ImportsWhole s) (ImportsNothing s ∷ rest) tt
      (causes-cons (ImportsNothing s) rest tt (imports-all texts)))

  -- those of a module
  module-by : (m : ℕ) → Has m → map to (module_causes p m) ≡ module_causes q (name m)
  module-by m r =
      ap (λ more. Defines (name m) ∷ HoldsMeta (name m) ∷ more)
      (map-append to (map (Loads m) (requested p m))
      (map (Own m) (counted zero (own_statements (tree_of p m))))
      ∙ ap₂ (λ (xs ys : List Cause). xs ++ ys)
      (map-twice (Loads m) to (requested p m)
      ∙ sym (map-twice name (Loads (name m)) (requested p m))
      ∙ ap (map (Loads (name m))) (sym (requested-by p q R name back its m r)))
      (map-twice (Own m) to (counted zero (own_statements (tree_of p m)))
      ∙ ap (λ (tree : List Item). map (Own (name m)) (counted zero (own_statements tree)))
      (w.tree m (name m) r)))

  module-all : (m : ℕ) → Has m → AllCauses (module_causes p m)
  module-all m r =
      let rest : List Cause =
      map (Loads m) (requested p m) ++ map (Own m) (counted zero (own_statements (tree_of p m))) in
      causes-cons (Defines m) (HoldsMeta m ∷ rest) r
      (causes-cons (HoldsMeta m) rest r
      (causes-join (map (Loads m) (requested p m))
      (map (Own m) (counted zero (own_statements (tree_of p m))))
      (causes-map (Loads m) (requested p m) (λ c there.
      (r, requested-named p q R name back its m r c there)))
      (causes-map (Own m) (counted zero (own_statements (tree_of p m))) (λ k there. r))))

  modules-by : (members : List ℕ) → AllHave Has members →
      map to (flat_map (module_causes p) members) ≡ flat_map (module_causes q) (map name members)
  modules-by [] all = refl
  modules-by (m ∷ members) all =
      map-append to (module_causes p m) (flat_map (module_causes p) members)
      ∙ ap₂ (λ (xs ys : List Cause). xs ++ ys) (module-by m (all m (here m members)))
      (modules-by members (have-tail Has m members all))

  abbrev block_causes : Program → List ℕ → List Cause
  block_causes r members = flat_map (module_causes r) members ++ map HoldsNamespace members

  block-by : (members : List ℕ) → AllHave Has members →
      map to (block_causes p members) ≡ block_causes q (map name members)
  block-by members all =
      map-append to (flat_map (module_causes p) members) (map HoldsNamespace members)
      ∙ ap₂ (λ (xs ys : List Cause). xs ++ ys) (modules-by members all)
      (map-twice HoldsNamespace to members ∙ sym (map-twice name HoldsNamespace members))

  block-all : (members : List ℕ) → AllHave Has members → AllCauses (block_causes p members)
  block-all members all =
      causes-join (flat_map (module_causes p) members) (map HoldsNamespace members)
      (causes-flat (module_causes p) members (λ m there. module-all m (all m there)))
      (causes-map HoldsNamespace members all)

  chosen-due : (form : Form) (xs ys plan : List Cause) → AllCauses xs → map to xs ≡ ys →
      Chosen (IsDue p form) xs plan → Chosen (IsDue q form) ys (map to plan)
  chosen-due form xs ys plan all e its_plan =
      subst (λ l. Chosen (IsDue q form) l (map to plan)) e
      (chosen-by to (λ x there. due-both form x (all x there)) its_plan)

  -- Blocks.

  owner-by : (cause : Cause) → owner_of (to cause) ≡ option_map name (owner_of cause)
  owner-by (Own m k) = refl
  owner-by (ImportsNames s) = refl
  owner-by (ImportsWhole s) = refl
  owner-by (ImportsNothing s) = refl
  owner-by Helps = refl
  owner-by (Defines c) = refl
  owner-by (Loads m c) = refl
  owner-by (HoldsMeta m) = refl
  owner-by (HoldsNamespace d) = refl
  owner-by (Stars s) = refl
  owner-by Exports = refl

  owner-has : (cause : Cause) → EachModule Has cause → (m : ℕ) → owner_of cause ≡ Some m → Has m
  owner-has (Own n k) r m e = subst Has (same_Some n m e) r
  owner-has (ImportsNames s) r m e = absurd (none-some m e)
  owner-has (ImportsWhole s) r m e = absurd (none-some m e)
  owner-has (ImportsNothing s) r m e = absurd (none-some m e)
  owner-has Helps r m e = absurd (none-some m e)
  owner-has (Defines c) r m e = subst Has (same_Some c m e) r
  owner-has (Loads n c) r m e = subst Has (same_Some n m e) r.0
  owner-has (HoldsMeta n) r m e = subst Has (same_Some n m e) r
  owner-has (HoldsNamespace d) r m e = absurd (none-some m e)
  owner-has (Stars s) r m e = absurd (none-some m e)
  owner-has Exports r m e = absurd (none-some m e)

  owned-at : (causes : List Cause) (s : ℕ) (o : Option ℕ) →
      slice_get (map owner_of causes) s ≡ Some o →
      slice_get (map owner_of (map to causes)) s ≡ Some (option_map name o)
  owned-at causes s o at =
      let was = mapped-at owner_of causes s o at in
      at-mapped owner_of (map to causes) s (to was.0) (at-mapped to causes s was.0 was.1)
      ∙ ap (λ x. Some x) (owner-by was.0 ∙ ap (option_map name) was.2)

  record WasOwned (causes : List Cause) (s : ℕ) (o : Option ℕ) : Type 0 where
    owner : Option ℕ
    there : slice_get (map owner_of causes) s ≡ Some owner
    is : option_map name owner ≡ o
    has : (m : ℕ) → owner ≡ Some m → Has m

  owned-was : (causes : List Cause) → AllCauses causes → (s : ℕ) (o : Option ℕ) →
      slice_get (map owner_of (map to causes)) s ≡ Some o → WasOwned causes s o
  owned-was causes all s o at =
      let made = mapped-at owner_of (map to causes) s o at in
      let was = mapped-at to causes s made.0 made.1 in
      record {
        owner = owner_of was.0;
        there = at-mapped owner_of causes s was.0 was.1;
        is = sym (owner-by was.0) ∙ ap owner_of was.2 ∙ made.2;
        has = owner-has was.0 (all was.0 (contains-get causes s was.0 was.1));
      }

  was-none : (o : Option ℕ) → option_map name o ≡ None → o ≡ None
  was-none None e = refl
  was-none (Some m) e = absurd (none-some (name m) (sym e))

  was-some : (o : Option ℕ) (n : ℕ) → option_map name o ≡ Some n →
      (m : ℕ) × (o ≡ Some m) × (name m ≡ n)
  was-some None n e = absurd (none-some n e)
  was-some (Some m) n e = (m, refl, same_Some (name m) n e)

  -- the same items are free, and the same are of one module
  owners-by : (causes : List Cause) → AllCauses causes →
      OwnersAlike (map owner_of causes) (map owner_of (map to causes))
  owners-by causes all = record {
    free = λ s. (
      λ at. owned-at causes s None at,
      λ at. let was = owned-was causes all s None at in
          was.there ∙ ap (λ x. Some x) (was-none was.owner was.is),
    );
    share = λ s t. (
      λ both. (
        name both.0,
        owned-at causes s (Some both.0) both.1,
        owned-at causes t (Some both.0) both.2,
      ),
      λ both.
          let one = owned-was causes all s (Some both.0) both.1 in
          let two = owned-was causes all t (Some both.0) both.2 in
          let m = was-some one.owner both.0 one.is in
          let n = was-some two.owner both.0 two.is in
          let same : n.0 ≡ m.0 =
          name-one p q R name back its n.0 m.0 (two.has n.0 n.1) (one.has m.0 m.1)
          (n.2 ∙ sym m.2) in (
            m.0,
            one.there ∙ ap (λ x. Some x) m.1,
            two.there ∙ ap (λ x. Some x) (n.1 ∙ ap (λ x. Some x) same),
          ),
    );
  }

  module _ (form : Form) (reading : Reading) (tree : List Item) (plan : List Cause)
      (labels others : Labelling) (items : List (List Item)) where
    abbrev one : Pairing
    one = pairing_of labels items plan

    abbrev two : Pairing
    two = pairing_of others items (map to plan)

    stand-by : (causes : List Cause) (tops : List TopItem) → AllZip (StandsFor one) causes tops →
        AllZip (StandsFor two) (map to causes) tops
    stand-by [] [] all = tt
    stand-by [] (top ∷ tops) all = absurd all
    stand-by (cause ∷ causes) [] all = absurd all
    stand-by (cause ∷ causes) (top ∷ tops) all = (
      record {
        at = all.0.at;
        cause_there = at-mapped to plan all.0.at cause all.0.cause_there;
        item_there = all.0.item_there;
      },
      stand-by causes tops all.1,
    )

    placed-by : (numbered : List Cause) (order : List ℕ) (causes : List Cause) →
        AllZip (λ n cause. slice_get numbered n ≡ Some cause) order causes →
        AllZip (λ n cause. slice_get (map to numbered) n ≡ Some cause) order (map to causes)
    placed-by numbered [] [] all = tt
    placed-by numbered [] (cause ∷ causes) all = absurd all
    placed-by numbered (n ∷ order) [] all = absurd all
    placed-by numbered (n ∷ order) (cause ∷ causes) all =
        (at-mapped to numbered n cause all.0, placed-by numbered order causes all.1)

    asks-by : (members : List ℕ) → ((m : ℕ) → members ≡ m ∷ [] → Requests p m m) →
        AllHave Has members →
        (m : ℕ) → map name members ≡ m ∷ [] → Requests q m m
    asks-by [] asks all m e = absurd (short e)
      where
        short : [] ≡ m ∷ [] → ⊥
        short e = let none : 0 ≡ 1 = ap length e in omega (arith, none)
    asks-by (a ∷ []) asks all m e =
        subst (λ n. Requests q n n) (head-same (name a) m [] [] e)
        (requests-by p q R name back its a a (all a (here a [])) (asks a refl))
    asks-by (a ∷ b ∷ members) asks all m e = absurd (long e)
      where
        long : name a ∷ name b ∷ map name members ≡ m ∷ [] → ⊥
        long e =
            let more : suc (suc (length (map name members))) ≡ 1 = ap length e in
            omega (arith, more)

    laid-block : {members : List ℕ} {causes : List Cause} → AllHave Has members →
        IsBlockLaidOut p form tree reading one members causes →
        IsBlockLaidOut q form tree reading two (map name members) (map to causes)
    laid-block {causes = causes} all (lone {m} apart its_plan) =
        let r : Has m = all m (here m []) in
        lone
        (λ by_needs requests. apart (w.in_standard_order ∙ by_needs)
        (requests-back p q R name back its m m r r requests))
        (chosen-due form (module_causes p m ++ HoldsNamespace m ∷ [])
        (module_causes q (name m) ++ HoldsNamespace (name m) ∷ []) causes
        (causes-join (module_causes p m) (HoldsNamespace m ∷ []) (module-all m r)
        (causes-cons (HoldsNamespace m) [] r (λ cause there. absurd (no_element there))))
        (map-append to (module_causes p m) (HoldsNamespace m ∷ [])
        ∙ ap (λ (xs : List Cause). xs ++ HoldsNamespace (name m) ∷ []) (module-by m r)) its_plan)
    laid-block {members = members} {causes = causes} all (cycle numbered tops order by_needs asks
        numbers stand good its_plan) =
        let named : AllCauses numbered =
        λ cause there.
        (let both = Chosen-in numbers cause there in due-named p q R name back its both.1) in
        cycle (map to numbered) tops order (sym w.in_standard_order ∙ by_needs)
        (asks-by members asks all)
        (chosen-due form (block_causes p members) (block_causes q (map name members)) numbered
        (block-all members all) (block-by members all) numbers)
        (stand-by numbered tops stand)
        (owned-order reading one.top tree tops (map owner_of numbered)
        (map owner_of (map to numbered))
        (owners-by numbered named) order good)
        (placed-by numbered order causes its_plan)

    laid-blocks : {blocks : List (List ℕ)} {causes : List Cause} →
        ((block : List ℕ) → Contains blocks block → AllHave Has block) →
        AreBlocksLaidOut p form tree reading one blocks causes →
        AreBlocksLaidOut q form tree reading two (map (map name) blocks) (map to causes)
    laid-blocks all over = over
    laid-blocks all (next {members} {blocks} {rest} causes block more) =
        subst (AreBlocksLaidOut q form tree reading two (map (map name) (members ∷ blocks)))
        (sym (map-append to causes rest))
        (next (map to causes) (laid-block (all members (here members blocks)) block)
        (laid-blocks (λ other there. all other (later members blocks other there)) more))

    -- laid out
    pub laid-by : IsLaidOut p form reading tree one → IsLaidOut q form reading tree two
    laid-by laid =
        let all = list-named p q R name back its laid.list laid.is_list in
        let named =
        blocks-named p q R name back its laid.list laid.blocks laid.is_list laid.are_blocks in
        let outside = externals-by laid.list all in
        record {
          list = map name laid.list;
          is_list = list-by p q R name back its laid.list laid.is_list;
          blocks = map (map name) laid.blocks;
          are_blocks =
              blocks-by p q R name back its laid.list laid.blocks laid.is_list laid.are_blocks;
          follows =
              λ by_needs. follows-by p q R name back its laid.blocks named
              (laid.follows (w.in_standard_order ∙ by_needs));
          front = map to laid.front;
          middle = map to laid.middle;
          back = map to laid.back;
          plan =
              ap (map to) laid.plan
              ∙ (map-append to laid.front (laid.middle ++ laid.back)
              ∙ ap (λ (xs : List Cause). map to laid.front ++ xs)
              (map-append to laid.middle laid.back));
          in_front =
              chosen-due form (flat_map import_causes (externals p laid.list) ++ Helps ∷ [])
              (flat_map import_causes (externals q (map name laid.list)) ++ Helps ∷ []) laid.front
              (causes-join (flat_map import_causes (externals p laid.list)) (Helps ∷ [])
              (imports-all (externals p laid.list))
              (causes-cons Helps [] tt (λ cause there. absurd (no_element there))))
              (map-append to (flat_map import_causes (externals p laid.list)) (Helps ∷ [])
              ∙ ap (λ (xs : List Cause). xs ++ Helps ∷ [])
              (imports-same (externals p laid.list) ∙ ap (flat_map import_causes) outside))
              laid.in_front;
          in_blocks = laid-blocks named laid.in_blocks;
          behind =
              chosen-due form (map Stars (externals p laid.list) ++ Exports ∷ [])
              (map Stars (externals q (map name laid.list)) ++ Exports ∷ []) laid.back
              (causes-join (map Stars (externals p laid.list)) (Exports ∷ [])
              (causes-map Stars (externals p laid.list) (λ s there. tt))
              (causes-cons Exports [] tt (λ cause there. absurd (no_element there))))
              (map-append to (map Stars (externals p laid.list)) (Exports ∷ [])
              ∙ ap (λ (xs : List Cause). xs ++ Exports ∷ [])
              (map-twice Stars to (externals p laid.list) ∙ ap (map Stars) outside))
              laid.behind;
        }
