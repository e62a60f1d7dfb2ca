-- Groups that are alike have the same dependencies, needs, steps and good orders.
-- Items that correspond give groups that are alike.
-- The identifiers of an item among those of its tree.
use Rattle.std.proofs.Common.{◌≡◌, ◌↔◌, ◌<◌, ◌≤◌, ℕ, Option, Some, List, [], ◌∷◌, slice_get, Contains, refl, sym, ap, ◌∙◌, subst, inl, inr, true, None, map, zero, suc, ◌+◌, ◌&&◌, ◌++◌, codes, length, drop, take, arith}
use Rattle.std.specs.List.{AllZip}
use Rattle.std.specs.Option.{option_and_then, option_map}
use Rattle.std.proofs.lemmas.Option.{same_Some, none-some, slice_get-map}
use Rattle.std.proofs.lemmas.List.Elements.{length_all_zip}
use Rattle.std.specs.Prelude.{fold}
use Rattle.std.proofs.lemmas.List.{take-append-drop}
use Rattle.bundle_order_graph.proofs.WalkLemmas.{Path-mono}
use Rattle.bundle_syntax.specs.Item as in_item
use Rattle.bundle_syntax.specs.Item.{Item}
use Rattle.bundle_syntax.specs.declared.piece.Role.{Role}
use Rattle.bundle_syntax.specs.declared.piece.Role.TheVariants
use Rattle.bundle_rules.specs.Order.{Mention, Group, IsOf, IsFree, mention_at, Refers, DeclaresAt, Declares, DeclaresFirst, IsWithoutValue, Fills, SetsUpBy, by_member, by_prototype, by_value, SetsUp, Provides, Depends, DependsAtOnce, IsStrong, IsWeak, Needs, Step, by_need, by_own_order, IsGoodOrder, group_of, mentioned, mention_of, denoted_in, is_object_at, is_global_named, is_of_nothing}
use Rattle.bundle_rules.specs.Places.{Occurrence, occurrences, Around, Spot, past, start, in_field, outer_path, occurrence_at, occurrences_from}
use Rattle.bundle_rules.specs.Scopes.{Scope, Es}
use Rattle.bundle_rules.specs.Declarations.{Reading, declared}
use Rattle.bundle_rules.specs.Denotes.{Denoted, denoted_of, denoted_as}
use Rattle.bundle_rules.specs.Statements.{TopItem}
use Rattle.bundle_rules.proofs.PlacesLemmas.{occurrences-at}
use Rattle.bundle_order.specs.Renumbered.{IsSameButTop}
use Rattle.bundle_order.proofs.RenumberLemmas.{zip-at, row-of, same_but_top-sym}
use Rattle.bundle_merge_theory.specs.grouped.Alike.{DenoteOne, Share, OwnersAlike, GroupsAlike}
use Rattle.bundle_merge_theory.specs.grouped.Standing.{SameFlags, object_in, ItemsAlike, StandsInItem, Correspond}
use Rattle.bundle_merge_theory.proofs.grouped.TopLemmas.{denote_one-to, denote_one-from}
use Rattle.bundle_merge_theory.proofs.joined.Paths.{get-map, get-left, get-behind, outer-in_field, fold-place, occurrences-append}
use Rattle.bundle_merge_theory.specs.grouped.Placed.{IsDirect}
use Rattle.bundle_merge_theory.specs.grouped.Forms.{Under, out, below, deeper}

-- ---- two lists in turn, the other way round
module _ {X Y : Type 0} (R : X → Y → Type 0) where
  zip-flip : (xs : List X) (ys : List Y) (S : Y → X → Type 0) →
      ((x : X) (y : Y) → R x y → S y x) → AllZip R xs ys → AllZip S ys xs
  zip-flip [] [] S turns z = tt
  zip-flip [] (v ∷ ys) S turns z = absurd z
  zip-flip (u ∷ xs) [] S turns z = absurd z
  zip-flip (u ∷ xs) (v ∷ ys) S turns z = (turns u v z.0, zip-flip xs ys S turns z.1)

-- an identifier of the one group and the one that stands there in the other
pub record Twin (h : Group) (s i : ℕ) (m : Mention) : Type 0 where
  pub by : Mention
  pub there : mention_at h s i ≡ Some by
  pub same : IsSameButTop m by

pub twin-in : (g h : Group) → AllZip (AllZip IsSameButTop) g.items h.items →
    (s i : ℕ) (m : Mention) → mention_at g s i ≡ Some m → Twin h s i m
twin-in g h items s i m e =
    let row = row-of g.items s i m (slice_get g.items s) refl e in
    let other = zip-at (AllZip IsSameButTop) g.items h.items s row.0 items row.1 in
    let its = zip-at IsSameButTop row.0 other.0 i m other.2 row.2 in
    record {
      by = its.0;
      there = ap (λ (o : Option (List Mention)). option_and_then
          (λ (r : List Mention). slice_get r i) o) other.1 ∙ its.1;
      same = its.2;
    }

-- ---- alike both ways
pub owners-sym : (one two : List (Option ℕ)) → OwnersAlike one two → OwnersAlike two one
owners-sym one two alike =
    record {
      free = λ s. ((alike.free s).1, (alike.free s).0);
      share = λ s t. ((alike.share s t).1, (alike.share s t).0);
    }

pub owners-refl : (one : List (Option ℕ)) → OwnersAlike one one
owners-refl one = record { free = λ s. ((λ e. e), (λ e. e)); share = λ s t. ((λ e. e), (λ e. e)) }

pub alike-sym : (g h : Group) → GroupsAlike g h → GroupsAlike h g
alike-sym g h alike = record {
  owners = owners-sym g.owners h.owners alike.owners;
  items =
      zip-flip (AllZip IsSameButTop) g.items h.items (AllZip IsSameButTop)
      (λ xs ys z. zip-flip IsSameButTop xs ys IsSameButTop same_but_top-sym z) alike.items;
  same = λ s i t j a b c d at_a at_b at_c at_d declares.
      let twin : Twin h t j d = twin-in g h alike.items t j d at_d in
      let is : b ≡ twin.by = same_Some b twin.by (sym at_b ∙ twin.there) in
      let both = alike.same s i t j c d a b at_c at_d at_a at_b (twin.same.declares
      ∙ (ap (λ (m : Mention). m.declares) (sym is) ∙ declares)) in
      (both.1, both.0);
}

-- ---- what one group says, the other says of the binding that stands for it
-- some identifier declares the one here and the other there
pub record StandsFor (g h : Group) (b c : ℕ) : Type 0 where
  pub t : ℕ
  pub j : ℕ
  pub one : Mention
  pub other : Mention
  pub here : DeclaresAt g t b j one
  pub there : DeclaresAt h t c j other

pub stands-sym : (g h : Group) (b c : ℕ) → StandsFor g h b c → StandsFor h g c b
stands-sym g h b c r =
    record { t = r.t; j = r.j; one = r.other; other = r.one; here = r.there; there = r.here }

-- an identifier and the one that stands there in the other group, where the one denotes b and the
-- other c
pub record Moved (h : Group) (s i c : ℕ) (m : Mention) : Type 0 where
  pub by : Mention
  pub there : mention_at h s i ≡ Some by
  pub denotes : by.top ≡ Some c
  pub same : IsSameButTop m by

-- what is alike, from the one group to the other
module _ (g h : Group) (alike : GroupsAlike g h) where
  moved : (s i b c : ℕ) (m : Mention) → StandsFor g h b c → mention_at g s i ≡ Some m →
      m.top ≡ Some b → Moved h s i c m
  moved s i b c m r e top =
      let twin : Twin h s i m = twin-in g h alike.items s i m e in
      let one : DenoteOne twin.by r.other =
      (alike.same s i r.t r.j m r.one twin.by r.other e r.here.there twin.there r.there.there
      r.here.declares).0 (b, top, r.here.denotes) in
      record {
        by = twin.by;
        there = twin.there;
        denotes = one.1 ∙ (sym one.2 ∙ r.there.denotes);
        same = twin.same;
      }

  -- a binding that an item declares has one that stands for it
  stands : (t b : ℕ) → Declares g t b → (c : ℕ) × StandsFor g h b c
  stands t b (j, by, d) =
      let twin : Twin h t j by = twin-in g h alike.items t j by d.there in
      let one : DenoteOne twin.by twin.by =
      (alike.same t j t j by by twin.by twin.by d.there d.there twin.there twin.there
      d.declares).0 (b, d.denotes, d.denotes) in (
        one.0,
        record {
          t = t;
          j = j;
          one = by;
          other = twin.by;
          here = d;
          there = record {
            there = twin.there;
            denotes = one.1;
            declares = sym twin.same.declares
                ∙ d.declares;
          };
        },
      )

  shares : (s t : ℕ) → Share g.owners s t → Share h.owners s t
  shares s t e = (alike.owners.share s t).0 e

  is_free : (s : ℕ) → IsFree g s → IsFree h s
  is_free s e = (alike.owners.free s).0 e

  pub record Referred (s c : ℕ) (by : Mention) : Type 0 where
    pub its : Mention
    pub refers : Refers h s c its
    pub same : IsSameButTop by its

  refers-to : (s b c : ℕ) (by : Mention) → StandsFor g h b c → Refers g s b by → Referred s c by
  refers-to s b c by r x =
      let m : Moved h s x.at c by = moved s x.at b c by r x.there x.denotes in
      record {
        its = m.by;
        refers = record {
          at = x.at;
          there = m.there;
          denotes = m.denotes;
          refers = sym m.same.declares ∙ x.refers;
        };
        same = m.same;
      }

  pub record Redeclared (s c at : ℕ) (by : Mention) : Type 0 where
    pub its : Mention
    pub declares : DeclaresAt h s c at its
    pub same : IsSameButTop by its

  declares-to : (s b c at : ℕ) (by : Mention) → StandsFor g h b c → DeclaresAt g s b at by →
      Redeclared s c at by
  declares-to s b c at by r x =
      let m : Moved h s at c by = moved s at b c by r x.there x.denotes in
      record {
        its = m.by;
        declares = record {
          there = m.there;
          denotes = m.denotes;
          declares = sym m.same.declares
              ∙ x.declares;
        };
        same = m.same;
      }

  declared-to : (s b c : ℕ) → StandsFor g h b c → Declares g s b → Declares h s c
  declared-to s b c r (at, by, x) = let m = declares-to s b c at by r x in (at, m.its, m.declares)

  fills-to : (s b c : ℕ) → StandsFor g h b c → Fills g s b → Fills h s c
  fills-to s b c r f =
      let m = refers-to s b c f.by r f.refers in
      record {
        by = m.its;
        refers = m.refers;
        fills = elim f.fills
            [ inl a ↦ inl (sym m.same.assigned ∙ a) | inr a ↦ inr (sym m.same.argument ∙ a) ];
      }

-- ---- both ways at once
module _ (g h : Group) (alike : GroupsAlike g h) where
  back : GroupsAlike h g
  back = alike-sym g h alike

  module _ (b c : ℕ) (r : StandsFor g h b c) where
    first-to : (d : ℕ) → DeclaresFirst g d b → DeclaresFirst h d c
    first-to d f = record {
      declares = declared-to g h alike d b c r f.declares;
      first = λ u it. f.first u (declared-to h g back u c b (stands-sym g h b c r) it);
    }

    without-to : (d : ℕ) → IsWithoutValue g d b → IsWithoutValue h d c
    without-to d w =
        let m = declares-to g h alike d b c w.at w.by r w.declares in
        record {
          at = w.at;
          by = m.its;
          declares = m.declares;
          first =
              λ other its it. w.first other _
              (declares-to h g back d c b other its (stands-sym g h b c r) it).declares;
          no_value = sym m.same.valueless ∙ w.no_value;
        }

    by-to : (m n d t : ℕ) → IsOf g d m → IsOf h d n → SetsUpBy g m d t b → SetsUpBy h n d t c
    by-to m n d t of_g of_h (by_member by x l k) =
        let q = refers-to g h alike t b c by r x in
        by_member q.its q.refers (sym q.same.later ∙ l) (sym q.same.chain ∙ k)
    by-to m n d t of_g of_h (by_prototype by x l k) =
        let q = refers-to g h alike t b c by r x in
        by_prototype q.its q.refers (sym q.same.later ∙ l) (sym q.same.prototype ∙ k)
    by-to m n d t of_g of_h (by_value w f none) =
        by_value (without-to d w) (fills-to g h alike t b c r f) (λ u o after before fills.
        let both : Share g.owners u d = shares h g back u d (n, o, of_h) in
        let same : both.0 ≡ m =
        same_Some both.0 m (same_Some (Some both.0) (Some m) (sym both.2 ∙ of_g)) in
        none u (subst (λ k. IsOf g u k) same both.1) after before
        (fills-to h g back u c b (stands-sym g h b c r) fills))

    sets_up-to : (t : ℕ) → SetsUp g t b → SetsUp h t c
    sets_up-to t s =
        let both : Share h.owners s.first t =
        shares g h alike s.first t (s.which, s.its, s.same) in record {
          which = both.0;
          first = s.first;
          declares = first-to s.first s.declares;
          its = both.1;
          same = both.2;
          later = s.later;
          by = by-to s.which both.0 s.first t s.its both.1 s.by;
        }

    provides-to : (t : ℕ) → Provides g t b → Provides h t c
    provides-to t (inl x) = inl (declared-to g h alike t b c r x)
    provides-to t (inr s) = inr (sets_up-to t s)

  -- what an item provides is declared
  stands-provided : (t b : ℕ) → Provides g t b → (c : ℕ) × StandsFor g h b c
  stands-provided t b (inl x) = stands g h alike t b x
  stands-provided t b (inr s) = stands g h alike s.first b s.declares.declares

  depends-to : (s t : ℕ) → Depends g s t → Depends h s t
  depends-to s t d =
      let n = stands-provided t d.binding d.provides in
      let m = refers-to g h alike s d.binding n.0 d.by n.1 d.refers in
      record {
        other = d.other;
        binding = n.0;
        by = m.its;
        refers = m.refers;
        provides = provides-to d.binding n.0 n.1 t d.provides;
      }

  at_once-to : (s t : ℕ) → DependsAtOnce g s t → DependsAtOnce h s t
  at_once-to s t d =
      let n = stands-provided t d.binding d.provides in
      let m = refers-to g h alike s d.binding n.0 d.by n.1 d.refers in
      record {
        binding = n.0;
        by = m.its;
        refers = m.refers;
        at_once = sym m.same.later
            ∙ d.at_once;
        provides = provides-to d.binding n.0 n.1 t d.provides;
      }

  strong-to : (s t : ℕ) → IsStrong g s t → IsStrong h s t
  strong-to s t i = record {
    depends = depends-to s t i.depends;
    at_once =
        elim i.at_once [ inl f ↦ inl (is_free g h alike s f) | inr o ↦ inr (at_once-to s t o) ];
  }

-- ---- the statements
module _ (g h : Group) (alike : GroupsAlike g h) where
  pub Depends-alike : (s t : ℕ) → Depends g s t ↔ Depends h s t
  Depends-alike s t = (depends-to g h alike s t, depends-to h g (alike-sym g h alike) s t)

  pub IsStrong-alike : (s t : ℕ) → IsStrong g s t ↔ IsStrong h s t
  IsStrong-alike s t = (strong-to g h alike s t, strong-to h g (alike-sym g h alike) s t)

-- from the one group to the other
module _ (g h : Group) (alike : GroupsAlike g h) where
  weak-from : (s t : ℕ) → IsWeak h s t → IsWeak g s t
  weak-from s t w =
      record {
        depends = (Depends-alike g h alike s t).1 w.depends;
        not_strong = λ i. w.not_strong ((IsStrong-alike g h alike s t).0 i);
      }

  needs-to : (s t : ℕ) → Needs g s t → Needs h s t
  needs-to s t n = record {
    depends = (Depends-alike g h alike s t).0 n.depends;
    across =
        record {
          apart = λ m a b. let both : Share g.owners s t = shares h g (alike-sym g h alike)
              s t (m, a, b) in n.across.apart both.0 both.1 both.2;
        };
    holds =
        λ weak path. n.holds (weak-from s t weak)
        (Path-mono {E = Depends h} {F = Depends g} (λ x y. (Depends-alike g h alike x y).1)
        path);
  }

  step-to : (s t : ℕ) → Step g s t → Step h s t
  step-to s t (by_need n) = by_need (needs-to s t n)
  step-to s t (by_own_order m a b less) =
      let both : Share h.owners s t = shares g h alike s t (m, a, b) in
      by_own_order both.0 both.1 both.2 less

module _ (g h : Group) (alike : GroupsAlike g h) where
  pub Needs-alike : (s t : ℕ) → Needs g s t ↔ Needs h s t
  Needs-alike s t = (needs-to g h alike s t, needs-to h g (alike-sym g h alike) s t)

  pub Step-alike : (s t : ℕ) → Step g s t ↔ Step h s t
  Step-alike s t = (step-to g h alike s t, step-to h g (alike-sym g h alike) s t)

good-to : (g h : Group) → GroupsAlike g h → (order : List ℕ) → IsGoodOrder g order →
    IsGoodOrder h order
good-to g h alike order good =
    let from = alike-sym g h alike in
    record {
      order_of = record {
        all =
            λ s. subst (λ count. s < count ↔ Contains order s)
            (length_all_zip (AllZip IsSameButTop) g.items h.items alike.items)
            (good.order_of.all s);
        once = good.order_of.once;
      };
      own =
          λ m s t a b less before. Path-mono {E = Step g} {F = Step h}
          (λ x y. (Step-alike g h alike x y).0)
          (let both : Share g.owners s t = shares h g from s t (m, a, b) in
          good.own both.0 s t both.1 both.2 less before);
      needs = λ s t n before.
          let p = good.needs s t ((Needs-alike g h alike s t).1 n) before in (
            Path-mono {E = Depends g} {F = Depends h} (λ x y. (Depends-alike g h alike x y).0) p.0,
            Path-mono {E = Step g} {F = Step h} (λ x y. (Step-alike g h alike x y).0) p.1,
          );
      as_numbered =
          λ bound s t most settled a b before. good.as_numbered bound s t
          (subst (λ count. bound ≤ count)
          (sym (length_all_zip (AllZip IsSameButTop) g.items h.items alike.items)) most)
          (λ x y c d path. settled x y c d
          (Path-mono {E = Step g} {F = Step h} (λ u v. (Step-alike g h alike u v).0) path))
          a b before;
    }

-- an order is good of both or of none
pub IsGoodOrder-alike : (g h : Group) → GroupsAlike g h → (order : List ℕ) →
    IsGoodOrder g order ↔ IsGoodOrder h order
IsGoodOrder-alike g h alike order =
    (good-to g h alike order, good-to h g (alike-sym g h alike) order)

-- ---- group
zip-map : {X Y A B : Type 0} (R : X → Y → Type 0) (S : A → B → Type 0) (f : X → A) (g : Y → B) →
    ((x : X) (y : Y) → R x y → S (f x) (g y)) → (xs : List X) (ys : List Y) → AllZip R xs ys →
    AllZip S (map f xs) (map g ys)
zip-map R S f g gives [] [] zip = tt
zip-map R S f g gives [] (y ∷ ys) zip = absurd zip
zip-map R S f g gives (x ∷ xs) [] zip = absurd zip
zip-map R S f g gives (x ∷ xs) (y ∷ ys) zip = (gives x y zip.0, zip-map R S f g gives xs ys zip.1)

module _ (reading : Reading) (top : Scope) (tree : List Item) (items : List TopItem)
    (owners : List (Option ℕ)) where
  -- the identifier that stands behind a mention
  pub record Behind (s i : ℕ) (m : Mention) : Type 0 where
    pub item : TopItem
    pub name : Occurrence
    pub stands : StandsInItem items s i item name
    pub is : m ≡ mention_of reading tree (mentioned reading top tree items) item name

  pub behind : (s i : ℕ) (m : Mention) →
      mention_at (group_of reading top tree items owners) s i ≡ Some m → Behind s i m
  behind s i m e = by (slice_get (group_of reading top tree items owners).items s) refl e
    where
      by : (row : Option (List Mention)) →
          slice_get (group_of reading top tree items owners).items s ≡ row →
          option_and_then (λ (mentions : List Mention). slice_get mentions i) row ≡ Some m →
          Behind s i m
      by None at h = absurd (none-some m h)
      by (Some row) at h =
          let item = get-map
          (λ item. map (mention_of reading tree (mentioned reading top tree items) item)
          (occurrences item.items)) items s row at in
          let name = get-map (mention_of reading tree (mentioned reading top tree items) item.0)
          (occurrences item.0.items) i m (ap (λ (l : List Mention). slice_get l i) (sym item.2)
          ∙ h) in
          record {
            item = item.0;
            name = name.0;
            stands = record { item_there = item.1; there = name.1 };
            is = name.2;
          }

module _ (reading : Reading) (top : Scope) (tree : List Item) (items : List TopItem)
    (its_reading : Reading) (its_top : Scope) (its_tree : List Item) (its : List TopItem)
    (owners its_owners : List (Option ℕ)) (of_one : OwnersAlike owners its_owners)
    (correspond : Correspond reading top tree items its_reading its_top its_tree its) where
  abbrev tops : List Denoted
  tops = mentioned reading top tree items

  abbrev its_tops : List Denoted
  its_tops = mentioned its_reading its_top its_tree its

  flags : (item other : TopItem) (o p : Occurrence) →
      SameFlags item.items other.items (object_in reading tree item)
      (object_in its_reading its_tree other) o p →
      IsSameButTop (mention_of reading tree tops item o)
      (mention_of its_reading its_tree its_tops other p)
  flags item other o p same =
      record {
        declares = same.declares;
        later = same.later;
        assigned = same.assigned;
        argument = same.argument;
        chain = same.chain;
        prototype = same.prototype;
        valueless = same.valueless;
      }

  denote : (s i t j : ℕ) (a b c d : Mention) → Behind reading top tree items owners s i a →
      Behind reading top tree items owners t j b →
      Behind its_reading its_top its_tree its its_owners s i c →
      Behind its_reading its_top its_tree its its_owners t j d → b.declares ≡ true →
      DenoteOne a b ↔ DenoteOne c d
  denote s i t j a b c d at_a at_b at_c at_d declares =
      let both = correspond.tops s i t j at_a.item at_b.item at_c.item at_d.item at_a.name
      at_b.name at_c.name at_d.name at_a.stands at_b.stands at_c.stands at_d.stands
      (ap (λ (m : Mention). m.declares) (sym at_b.is) ∙ declares) in (
        λ one.
            let top_one = denote_one-to reading top tree items at_a.item at_b.item at_a.name
            at_b.name (subst (λ (m : Mention). DenoteOne m
            (mention_of reading tree tops at_b.item at_b.name)) at_a.is
            (subst (λ (m : Mention). DenoteOne a m) at_b.is one)) in
            let found = denote_one-from its_reading its_top its_tree its s i t j at_c.item
            at_d.item at_c.name at_d.name at_c.stands at_d.stands (both.0 top_one) in
            subst (λ (m : Mention). DenoteOne m d) (sym at_c.is)
            (subst (λ (m : Mention). DenoteOne
            (mention_of its_reading its_tree its_tops at_c.item at_c.name) m) (sym at_d.is)
            found),
        λ one.
            let top_one = denote_one-to its_reading its_top its_tree its at_c.item at_d.item
            at_c.name at_d.name
            (subst (λ (m : Mention). DenoteOne m
            (mention_of its_reading its_tree its_tops at_d.item at_d.name)) at_c.is
            (subst (λ (m : Mention). DenoteOne c m) at_d.is one)) in
            let found = denote_one-from reading top tree items s i t j at_a.item at_b.item
            at_a.name at_b.name at_a.stands at_b.stands (both.1 top_one) in
            subst (λ (m : Mention). DenoteOne m b) (sym at_a.is)
            (subst (λ (m : Mention). DenoteOne
            (mention_of reading tree tops at_a.item at_a.name) m) (sym at_b.is) found),
      )

  pub group_of-alike : GroupsAlike (group_of reading top tree items owners)
      (group_of its_reading its_top its_tree its its_owners)
  group_of-alike = record {
    owners = of_one;
    items = zip-map (ItemsAlike reading tree its_reading its_tree) (AllZip IsSameButTop) _ _
        (λ item other zip. zip-map (SameFlags item.items other.items (object_in reading tree item)
        (object_in its_reading its_tree other)) IsSameButTop (mention_of reading tree tops item)
        (mention_of its_reading its_tree its_tops other) (flags item other)
        (occurrences item.items) (occurrences other.items) zip)
        items its correspond.alike;
    same = λ s i t j a b c d at_a at_b at_c at_d declares.
        denote s i t j a b c d (behind reading top tree items owners s i a at_a)
        (behind reading top tree items owners t j b at_b)
        (behind its_reading its_top its_tree its its_owners s i c at_c)
        (behind its_reading its_top its_tree its its_owners t j d at_d) declares;
  }

  -- an order of items is good exactly if it is of those that correspond
  pub good_order-corresponds : (order : List ℕ) →
      IsGoodOrder (group_of reading top tree items owners) order
      ↔ IsGoodOrder (group_of its_reading its_top its_tree its its_owners) order
  good_order-corresponds order = IsGoodOrder-alike _ _ group_of-alike order

-- ---- number
length-before : {X : Type 0} (n : ℕ) (w : List X) (x : X) (rest : List X) → drop n w ≡ x ∷ rest →
    length (take n w) ≡ n
length-before zero w x rest e = refl
length-before (suc n) [] x rest e = absurd cc
length-before (suc n) (y ∷ w) x rest e = ap (λ k. suc k) (length-before n w x rest e)

-- the paths of two spots, in whichever field
abbrev Unders : Spot → Spot → Type 0
Unders t s = (m : ℕ) → Under (in_field m t.path) (in_field m s.path)

under-field : (m : ℕ) {p q : List Around} → Under p q → Under (in_field m p) (in_field m q)
under-field m out = out
under-field m (below b field) = below b m
under-field m (deeper head b a field under) = deeper head b a m under

under-outer : {p q : List Around} → Under p q → Under (outer_path p) (outer_path q)
under-outer out = out
under-outer (below b field) = out
under-outer (deeper head b a field under) = under

unders-outer : (t s : Spot) → Unders t s → (m : ℕ) →
    Under (in_field m (outer_path t.path)) (in_field m (outer_path s.path))
unders-outer t s paths m =
    under-field m (subst (λ (p : List Around). Under p (outer_path s.path))
    (outer-in_field 0 t.path)
    (subst (λ (q : List Around). Under (outer_path (in_field 0 t.path)) q)
    (outer-in_field 0 s.path) (under-outer (paths 0))))

-- what is found behind the one spot is found behind the other, a number of places further on
pub record Found (base : ℕ) (s : Spot) (xs : List Item) (i : ℕ) (o : Occurrence) : Type 0 where
  pub name : Occurrence
  pub there : slice_get (occurrences_from s xs) i ≡ Some name
  pub place : name.place ≡ base + o.place
  pub sym : name.sym ≡ o.sym
  pub ctxt : name.ctxt ≡ o.ctxt
  pub role : name.role ≡ o.role
  pub path : Under o.path name.path

occurs-found : (base : ℕ) (t s : Spot) (field : ℕ) (x : List ℕ) (ctxt : ℕ) (role : Role)
    (xs : List Item) (i : ℕ) (o : Occurrence) →
    s.place ≡ base + t.place → Under (in_field field t.path) (in_field field s.path) →
    ((j : ℕ) → slice_get (occurrences_from (past t (in_item.Ident field x ctxt role)) xs) j ≡ Some o →
    Found base (past s (in_item.Ident field x ctxt role)) xs j o) →
    slice_get (occurrences_from t (in_item.Ident field x ctxt role ∷ xs)) i ≡ Some o →
    Found base s (in_item.Ident field x ctxt role ∷ xs) i o
occurs-found base t s field x ctxt TheVariants.Word xs i o places path ih e =
    let f = ih i e in record {
      name = f.name;
      there = f.there;
      place = f.place;
      sym = f.sym;
      ctxt = f.ctxt;
      role = f.role;
      path = f.path;
    }
occurs-found base t s field x ctxt TheVariants.Binding xs zero o places path ih e =
    let is = same_Some _ o e in
    subst (λ (p : Occurrence). Found base s (in_item.Ident field x ctxt TheVariants.Binding ∷ xs) zero p) is
    (record {
      name = record {
        place = s.place;
        sym = x;
        ctxt = ctxt;
        role = TheVariants.Binding;
        path = in_field field s.path;
      };
      there = refl;
      place = places;
      sym = refl;
      ctxt = refl;
      role = refl;
      path = path;
    })
occurs-found base t s field x ctxt TheVariants.Binding xs (suc i) o places path ih e =
    let f = ih i e in record {
      name = f.name;
      there = f.there;
      place = f.place;
      sym = f.sym;
      ctxt = f.ctxt;
      role = f.role;
      path = f.path;
    }
occurs-found base t s field x ctxt TheVariants.Reference xs zero o places path ih e =
    let is = same_Some _ o e in
    subst (λ (p : Occurrence). Found base s (in_item.Ident field x ctxt TheVariants.Reference ∷ xs) zero p) is
    (record {
      name = record {
        place = s.place;
        sym = x;
        ctxt = ctxt;
        role = TheVariants.Reference;
        path = in_field field s.path;
      };
      there = refl;
      place = places;
      sym = refl;
      ctxt = refl;
      role = refl;
      path = path;
    })
occurs-found base t s field x ctxt TheVariants.Reference xs (suc i) o places path ih e =
    let f = ih i e in record {
      name = f.name;
      there = f.there;
      place = f.place;
      sym = f.sym;
      ctxt = f.ctxt;
      role = f.role;
      path = f.path;
    }

pub found-behind : (base : ℕ) (xs : List Item) (t s : Spot) (i : ℕ) (o : Occurrence) →
    s.place ≡ base + t.place → Unders t s → slice_get (occurrences_from t xs) i ≡ Some o →
    Found base s xs i o
found-behind base [] t s i o places paths e = absurd (none-some o e)
found-behind base (in_item.Open field head ∷ xs) t s i o places paths e =
    let f = found-behind base xs (past t (in_item.Open field head)) (past s (in_item.Open field head)) i o
    (omega (arith, places)) (λ m. deeper head t.place s.place m (paths field)) e in
    record {
      name = f.name;
      there = f.there;
      place = f.place;
      sym = f.sym;
      ctxt = f.ctxt;
      role = f.role;
      path = f.path;
    }
found-behind base (in_item.Ident field x ctxt role ∷ xs) t s i o places paths e =
    occurs-found base t s field x ctxt role xs i o places (paths field)
    (λ j. found-behind base xs (past t (in_item.Ident field x ctxt role))
    (past s (in_item.Ident field x ctxt role)) j o (omega (arith, places)) paths) e
found-behind base (in_item.Hole field ∷ xs) t s i o places paths e =
    let f = found-behind base xs (past t (in_item.Hole field)) (past s (in_item.Hole field)) i o
    (omega (arith, places)) paths e in
    record {
      name = f.name;
      there = f.there;
      place = f.place;
      sym = f.sym;
      ctxt = f.ctxt;
      role = f.role;
      path = f.path;
    }
found-behind base (in_item.Close ∷ xs) t s i o places paths e =
    let f = found-behind base xs (past t in_item.Close) (past s in_item.Close) i o (omega (arith, places))
    (unders-outer t s paths) e in
    record {
      name = f.name;
      there = f.there;
      place = f.place;
      sym = f.sym;
      ctxt = f.ctxt;
      role = f.role;
      path = f.path;
    }

-- ---- among the identifiers of the tree
-- how many identifiers stand before a place
abbrev pub count_before : List Item → ℕ → ℕ
count_before tree place = length (occurrences_from start (take place tree))

-- the identifier of the tree that an identifier of an item is
pub record Listed (tree : List Item) (item : TopItem) (i : ℕ) (o : Occurrence) : Type 0 where
  pub name : Occurrence
  pub there : slice_get (occurrences tree) (count_before tree item.start + i) ≡ Some name
  pub at : occurrence_at tree (item.start + o.place) ≡ Some name
  pub sym : name.sym ≡ o.sym
  pub ctxt : name.ctxt ≡ o.ctxt
  pub role : name.role ≡ o.role
  pub path : Under o.path name.path

filled : (items : List Item) (i : ℕ) (o : Occurrence) → slice_get (occurrences items) i ≡ Some o →
    (x : Item) × (more : List Item) × (items ≡ x ∷ more)
filled [] i o e = absurd (none-some o e)
filled (x ∷ more) i o e = (x, more, refl)

pub listed-in : (tree : List Item) (item : TopItem) → IsDirect tree item →
    (i : ℕ) (o : Occurrence) → slice_get (occurrences item.items) i ≡ Some o → Listed tree item i o
listed-in tree item direct i o e =
    let s : Spot = fold past start (take item.start tree) in
    let first = filled item.items i o e in
    let len : length (take item.start tree) ≡ item.start =
    length-before item.start tree first.0 (first.1 ++ direct.rest) (direct.is
    ∙ ap (λ (l : List Item). l ++ direct.rest) first.2) in
    let place : s.place ≡ item.start = fold-place start (take item.start tree)
    ∙ (ap (λ n. 0 + n) len ∙ (let same : 0 + item.start ≡ item.start = omega arith in same)) in
    let f : Found item.start s item.items i o = found-behind item.start item.items start s i o
    (place ∙ (let same : item.start ≡ item.start + 0 = omega arith in same))
    (λ m. direct.under m) e in
    let whole : occurrences tree ≡ occurrences_from start (take item.start tree)
    ++ (occurrences_from s item.items ++ occurrences_from (fold past s item.items) direct.rest)
    =
    ap (λ (l : List Item). occurrences l) (sym (take-append-drop item.start tree))
    ∙ (occurrences-append start (take item.start tree) (drop item.start tree)
    ∙ ap (λ l. occurrences_from start (take item.start tree) ++ l)
    (ap (occurrences_from s) direct.is ∙ occurrences-append s item.items direct.rest)) in
    let there : slice_get (occurrences tree) (count_before tree item.start + i) ≡ Some f.name =
    ap (λ l. slice_get l (count_before tree item.start + i)) whole
    ∙ (get-behind (occurrences_from start (take item.start tree)) (occurrences_from s item.items
    ++ occurrences_from (fold past s item.items) direct.rest) i
    ∙ get-left (occurrences_from s item.items)
    (occurrences_from (fold past s item.items) direct.rest) i f.name f.there) in
    record {
      name = f.name;
      there = there;
      at =
          ap (occurrence_at tree) (sym f.place)
          ∙ occurrences-at tree (count_before tree item.start + i) f.name there;
      sym = f.sym;
      ctxt = f.ctxt;
      role = f.role;
      path = f.path;
    }

-- what it denotes
pub denotes-listed : (reading : Reading) (tree : List Item) (item : TopItem) (i : ℕ)
    (o : Occurrence) (it : Listed tree item i o) →
    denoted_in reading tree item o
    ≡ Some (denoted_of reading Es (declared reading Es tree) it.name)
denotes-listed reading tree item i o it =
    ap (λ (p : Option Occurrence). option_map (denoted_of reading Es (declared reading Es tree)) p)
    it.at

pub object-listed : (reading : Reading) (tree : List Item) (item : TopItem) (i : ℕ)
    (o : Occurrence) (it : Listed tree item i o) →
    is_object_at reading tree (item.start + o.place)
    ≡ (is_global_named (codes "Object")
    (Some (denoted_of reading Es (declared reading Es tree) it.name))
    && is_of_nothing reading (Some it.name))
object-listed reading tree item i o it =
    ap (λ (p : Option Occurrence). is_global_named (codes "Object")
    (option_map (denoted_of reading Es (declared reading Es tree)) p)
    && is_of_nothing reading p) it.at

pub as-listed : (reading : Reading) (tree : List Item) (n : ℕ) (name : Occurrence) →
    slice_get (occurrences tree) n ≡ Some name →
    denoted_as reading Es tree n ≡ Some (denoted_of reading Es (declared reading Es tree) name)
as-listed reading tree n name e =
    slice_get-map (denoted_of reading Es (declared reading Es tree)) (occurrences tree) n
    ∙ ap (λ (p : Option Occurrence). option_map (denoted_of reading Es (declared reading Es tree))
    p) e
