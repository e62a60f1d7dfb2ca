-- A part of a tree has the same marks by notes that speak of other labels, with these labels.
-- What modules request and reach, their list and their blocks, in programs that are one but for the
-- numbers of their modules.
-- Labels are called the same in programs that are one but for the numbers of their modules.
use Rattle.std.proofs.Common.{◌≡◌, ℕ, Bool, true, false, List, [], ◌∷◌, ◌++◌, Some, None, map, refl, sym, ap, ◌∙◌, subst, if◌then◌else◌, inl, inr, not, nat_eq, Option, Contains, ap₂, cond, eqb-true, eq-eqb, arith, ◌==◌, find, option_map}
use Rattle.std.specs.Prelude.{is_none, filter, filter_map, flat_map, bytes_eq, unwrap_or, ◌&&◌}
use Rattle.std.specs.List.{AllZip, cons_option}
use Rattle.std.proofs.lemmas.List.{map-append}
use Rattle.std.proofs.lemmas.Option.{none-some, same_Some}
use Rattle.std.proofs.lemmas.Bool.{false≢true}
use Rattle.std.proofs.lemmas.List.Elements.{Contains-append_cases}
use Rattle.bundle_syntax.specs.Item as in_item
use Rattle.bundle_syntax.specs.Item.{Item, Head}
use Rattle.bundle_order_graph.specs.Walks.{Reaches, itself, along}
use Rattle.bundle_order_graph.specs.Order.{Lists, finished, passed, listed}
use Rattle.bundle_order_graph.specs.Blocks.{Members, nothing, kept, left, BlocksOf, over, ends, goes_on}
use Rattle.bundle_rules.specs.Nodes.{Text, numbers_once}
use Rattle.bundle_rules.specs.Marks.{Begins, Ends, Name, word_key, object_key}
use Rattle.bundle_rules.specs.Cleared.{cleared_head}
use Rattle.bundle_rules.specs.Meaning.{Meant, Mark, Label, Of, Parameter, Load, Meta, Helper}
use Rattle.bundle_rules.specs.Judging.{requests_in}
use Rattle.bundle_rules.specs.Program.{Program, tree_of, resolves, requested, Requests, IsList, SharesBlock, AreBlocks}
use Rattle.bundle_rules.specs.Bundle.{FollowsRequests}
use Rattle.bundle_rules.specs.Entries.{Taken, Named as Named_symbols, Whole as Whole_symbols, ImportEntry, ExportEntry, Local, Indirect, Star, declared_requests, imports_of, exports_of}
use Rattle.bundle_rules.specs.Linking.{imports, exports, Declared, Namespace, External, CommonJs}
use Rattle.bundle_rules.specs.Symbols.{same_taken, identifier_of, importing, exports_whole, exported_name, taken_name, is_number, symbol_of_label}
use Rattle.bundle_tree_places.specs.Edits.{Around, Anywhere, InObject, InSpecifier}
use Rattle.bundle_tree_rebuild.specs.declared.rewrite.Whole.{Whole}
use Rattle.bundle_tree_rebuild.specs.declared.rewrite.Whole.TheVariants.{Alone, Reads, Call}
use Rattle.bundle_tree_rebuild.specs.Becomes.{are_reads, is_literal_call}
use Rattle.bundle_link_index.proofs.ProgramLemmas.{later, first_or_later, map_on, map_back}
use Rattle.bundle_link_index.proofs.AskedLemmas.{import_asks, entry_asks}
use Rattle.bundle_link_targets.proofs.ListLemmas.{first-there as here}
use Rattle.bundle_link_targets.proofs.StageLemmas.{map_at as mapped-at}
use Rattle.bundle_link.specs.Alike.{IsAlike}
use Rattle.bundle_link.proofs.AlikeLemmas.{flip, resolves_on, same_asked, declared_on}
use Rattle.bundle_merge_theory.specs.noted.Marked as in_marked
use Rattle.bundle_merge_theory.specs.noted.Marked.{Note, Marked, next_note, meant_by_reads, meant_by_call, meant_for_member, meant_for_call, node_stays, node_marks, marks_there, pattern_marks, shorthand_marks}
use Rattle.bundle_merge_theory.specs.walked.Keeps.{notes_alone}
use Rattle.bundle_merge_theory.specs.walked.Renaming.{ItemMeaning, HasMarks}
use Rattle.bundle_merge_theory.specs.moved.Renumbered.{meant_by, mark_with, marks_by, told_renumbered, label_by}
use Rattle.bundle_merge_theory.proofs.moved.Forms.{key-map}
use Rattle.bundle_merge_theory.proofs.planned.OrderLemmas.{no_element, contains-get}
use Rattle.bundle_merge_theory.proofs.moved.Owed.{AreRenamed, IsLabelReached}
use Rattle.bundle_merge_theory.proofs.moved.Due.{turned-round, named-so, named-back, reach-named}

-- ---- marked
module _ (name : ℕ → ℕ) where
  abbrev note_by : Note → Note
  note_by note = record { meant = meant_by name note.meant; whole = note.whole }

  abbrev notes_by : List Note → List Note
  notes_by = map note_by

  some-none : {A B : Type 0} (b : Bool) (x : A) (y : B) →
      is_none (if b then Some x else None) ≡ is_none (if b then Some y else None)
  some-none true x y = refl
  some-none false x y = refl

  reads-same : (meant its : Meant) (whole : Whole) (inside : List Item) →
      is_none (meant_by_reads meant whole inside) ≡ is_none (meant_by_reads its whole inside)
  reads-same meant its (Reads count) inside = some-none (are_reads count inside) meant its
  reads-same meant its Alone inside = refl
  reads-same meant its Call inside = refl

  call-same : (meant its : Meant) (whole : Whole) (inside : List Item) →
      is_none (meant_by_call meant whole inside) ≡ is_none (meant_by_call its whole inside)
  call-same meant its Call inside = some-none (is_literal_call inside) meant its
  call-same meant its Alone inside = refl
  call-same meant its (Reads count) inside = refl

  member-stays : (notes : List Note) (inside : List Item) →
      is_none (meant_for_member (next_note notes) inside)
      ≡ is_none (meant_for_member (next_note (notes_by notes)) inside)
  member-stays [] inside = refl
  member-stays (note ∷ notes) inside =
      reads-same note.meant (meant_by name note.meant) note.whole inside

  call-stays : (notes : List Note) (inside : List Item) →
      is_none (meant_for_call (next_note notes) inside)
      ≡ is_none (meant_for_call (next_note (notes_by notes)) inside)
  call-stays [] inside = refl
  call-stays (note ∷ notes) inside =
      call-same note.meant (meant_by name note.meant) note.whole inside

  stays-by : (notes : List Note) (head : Head) (inside : List Item) →
      node_stays None (next_note notes) head inside ≡ node_stays None (next_note (notes_by notes)) head inside
  stays-by notes in_item.MemberExpr inside = member-stays notes inside
  stays-by notes in_item.CallExpr inside = call-stays notes inside
  stays-by notes (in_item.MetaPropExpr kind) inside = refl
  stays-by notes in_item.AssignPatProp inside = refl
  stays-by notes _ inside = refl

  -- marks

  node-map : (field : ℕ) (head : Head) (inside : List Mark) →
      marks_by name (node_marks field head inside) ≡ node_marks field head (marks_by name inside)
  node-map field head inside =
      ap (λ more. Begins field (cleared_head head) ∷ more)
      (map-append (mark_with (meant_by name)) inside (Ends ∷ []))

  there-map : (around : Around) (field : ℕ) (x : Text) (meant : Meant) →
      marks_by name (marks_there around field x meant)
      ≡ marks_there around field x (meant_by name meant)
  there-map InObject field x meant =
      ap (λ more. Begins field in_item.KeyValueProp ∷ more)
      (map-append (mark_with (meant_by name)) (object_key x) (Name 1 meant ∷ Ends ∷ [])
      ∙ ap (λ key. key ++ Name 1 (meant_by name meant) ∷ Ends ∷ []) (key-map (meant_by name) x))
  there-map Anywhere field x meant = refl
  there-map InSpecifier field x meant = refl

  shorthand-map : (field : ℕ) (x : Text) (meant : Meant) (default : List Item)
      (marks : List Mark) →
      marks_by name (shorthand_marks field x meant default marks)
      ≡ shorthand_marks field x (meant_by name meant) default (marks_by name marks)
  shorthand-map field x meant [] marks = refl
  shorthand-map field x meant (first ∷ more) marks =
      ap
      (λ l. Begins field in_item.KeyValuePatProp
      ∷ (word_key x ++ (Begins 1 in_item.AssignPat ∷ (pattern_marks 0 (meant_by name meant) ++ l))))
      (map-append (mark_with (meant_by name)) marks (Ends ∷ Ends ∷ []))

  kept-map : (field : ℕ) (head : Head) (first : ℕ) (marks more : List Mark) →
      marks_by name (node_marks field head (node_marks first in_item.MemberExpr marks ++ more))
      ≡ node_marks field head
      (node_marks first in_item.MemberExpr (marks_by name marks) ++ marks_by name more)
  kept-map field head first marks more =
      node-map field head (node_marks first in_item.MemberExpr marks ++ more)
      ∙ ap (node_marks field head)
      (map-append (mark_with (meant_by name)) (node_marks first in_item.MemberExpr marks) more
      ∙ ap (λ l. l ++ marks_by name more) (node-map first in_item.MemberExpr marks))

  -- by the other notes there are the other marks
  pub marked-by : {around : Around} {notes rest : List Note} {items : List Item}
      {marks : List Mark} → Marked None around notes items marks rest →
      Marked None around (notes_by notes) items (marks_by name marks) (notes_by rest)
  marked-by in_marked.Nothing = in_marked.Nothing
  marked-by {around = around} {notes = notes} {rest = rest}
      (in_marked.Joined {first = first} {second = second} {marks = marks} {more = more} one two) =
      subst (λ l. Marked None around (notes_by notes) (first ++ second) l (notes_by rest))
      (sym (map-append (mark_with (meant_by name)) marks more))
      (in_marked.Joined (marked-by one) (marked-by two))
  marked-by (in_marked.Hole field) = in_marked.Hole field
  marked-by (in_marked.Word field x ctxt role is) = in_marked.Word field x ctxt role is
  marked-by {rest = rest} (in_marked.Name around {note = note} field x ctxt role is) =
      subst
      (λ l. Marked None around (note_by note ∷ notes_by rest) (in_item.Ident field x ctxt role ∷ []) l
      (notes_by rest))
      (sym (there-map around field x note.meant)) (in_marked.Name around field x ctxt role is)
  marked-by {around = around} {notes = notes} {rest = rest} {items = items}
      (in_marked.Inside field head {inside = inside} {marks = marks} is its) =
      subst (λ l. Marked None around (notes_by notes) items l (notes_by rest))
      (sym (node-map field head marks))
      (in_marked.Inside field head (sym (stays-by notes head inside) ∙ is) (marked-by its))
  marked-by {around = around} {notes = notes} {rest = rest} {items = items}
      (in_marked.Kept field head first {marks = marks} {more_marks = more} is one two) =
      subst (λ l. Marked None around (notes_by notes) items l (notes_by rest))
      (sym (kept-map field head first marks more))
      (in_marked.Kept field head first is (marked-by one) (marked-by two))
  marked-by {around = around} {rest = rest} {items = items}
      (in_marked.Shorthand {note = note} {notes = notes} field x ctxt role {default = default}
      {marks = marks} is its) =
      subst (λ l. Marked None around (note_by note ∷ notes_by notes) items l (notes_by rest))
      (sym (shorthand-map field x note.meant default marks))
      (in_marked.Shorthand field x ctxt role is (marked-by its))
  marked-by (in_marked.OfReads field count inside is) = in_marked.OfReads field count inside is
  marked-by (in_marked.OfCall field inside is) = in_marked.OfCall field inside is
  marked-by (in_marked.OfMeta field meant e) = absurd (none-some meant e)

  alone-by : (meants : List Meant) → notes_by (notes_alone meants) ≡ notes_alone (map (meant_by name) meants)
  alone-by [] = refl
  alone-by (meant ∷ meants) =
      ap (λ l. record { meant = meant_by name meant; whole = Alone } ∷ l) (alone-by meants)

  -- an item of which other labels are told
  pub is-marked-by : (item : List Item) (told : ItemMeaning) → HasMarks item told →
      HasMarks item (told_renumbered name told)
  is-marked-by item told marked =
      subst (λ notes. Marked None Anywhere notes item (marks_by name told.1) [])
      (alone-by told.0) (marked-by marked)

  pub all-marked-by : (items : List (List Item)) (tolds : List ItemMeaning) →
      AllZip HasMarks items tolds → AllZip HasMarks items (map (told_renumbered name) tolds)
  all-marked-by [] [] marked = tt
  all-marked-by [] (told ∷ tolds) marked = absurd marked
  all-marked-by (item ∷ items) [] marked = absurd marked
  all-marked-by (item ∷ items) (told ∷ tolds) marked =
      (is-marked-by item told marked.0, all-marked-by items tolds marked.1)

-- ---- requested

-- Requests.

module _ (p q : Program) (R : ℕ → ℕ → Type 0) (w : IsAlike p q R) where
  none-forth : (m k : ℕ) (s : Text) → R m k → Contains (requests_in p.settings (tree_of p m)) s →
      resolves p m s ≡ None → (d : ℕ) → resolves q k s ≡ Some d → ⊥
  none-forth m k s r asked e d f =
      let l =
      resolves_on q p (λ a b. R b a) (flip w) k m d s r
      (subst (λ texts. Contains texts s) (same_asked p q R w m k r) asked) f in
      none-some l.0 (sym e ∙ l.2)

  zip-led : (m k : ℕ) → R m k → (texts : List Text) →
      ((s : Text) → Contains texts s → Contains (requests_in p.settings (tree_of p m)) s) →
      AllZip R (filter_map (resolves p m) texts) (filter_map (resolves q k) texts)
  zip-led m k r [] all = tt
  zip-led m k r (s ∷ texts) all =
      by (resolves p m s) (resolves q k s) refl refl
      (zip-led m k r texts (λ t c. all t (later s texts t c)))
    where
      by : (o u : Option ℕ) → resolves p m s ≡ o → resolves q k s ≡ u →
          AllZip R (filter_map (resolves p m) texts) (filter_map (resolves q k) texts) →
          AllZip R (cons_option o (filter_map (resolves p m) texts))
          (cons_option u (filter_map (resolves q k) texts))
      by None None e f ih = ih
      by None (Some d) e f ih = absurd (none-forth m k s r (all s (here s texts)) e d f)
      by (Some c) None e f ih =
          let l = resolves_on p q R w m k c s r (all s (here s texts)) e in
          absurd (none-some l.0 (sym f ∙ l.2))
      by (Some c) (Some d) e f ih =
          let l = resolves_on p q R w m k c s r (all s (here s texts)) e in
          (subst (R c) (same_Some l.0 d (sym l.2 ∙ f)) l.1, ih)

  zip-other : (x y : ℕ) → R x y → (xs ys : List ℕ) → AllZip R xs ys →
      AllZip R (filter (λ z. not (nat_eq x z)) xs) (filter (λ z. not (nat_eq y z)) ys)
  zip-other x y r [] [] z = tt
  zip-other x y r [] (b ∷ ys) z = absurd z
  zip-other x y r (a ∷ xs) [] z = absurd z
  zip-other x y r (a ∷ xs) (b ∷ ys) z =
      by (nat_eq x a) (nat_eq y b) refl refl (zip-other x y r xs ys z.1)
    where
      by : (s t : Bool) → nat_eq x a ≡ s → nat_eq y b ≡ t →
          AllZip R (filter (λ z. not (nat_eq x z)) xs) (filter (λ z. not (nat_eq y z)) ys) →
          AllZip R
          (cond (not s) (a ∷ filter (λ z. not (nat_eq x z)) xs)
          (filter (λ z. not (nat_eq x z)) xs))
          (cond (not t) (b ∷ filter (λ z. not (nat_eq y z)) ys)
          (filter (λ z. not (nat_eq y z)) ys))
      by true true e f ih = ih
      by false false e f ih = (z.0, ih)
      by true false e f ih =
          absurd
          (false≢true
          (sym f
          ∙ eq-eqb y b
          (w.one x y b r (subst (λ c. R c b) (sym (eqb-true x a e)) z.0))))
      by false true e f ih =
          absurd
          (false≢true
          (sym e ∙ eq-eqb x a (w.other y x a r (subst (R a) (sym (eqb-true y b f)) z.0))))

  zip-numbers : (xs ys : List ℕ) → AllZip R xs ys → AllZip R (numbers_once xs) (numbers_once ys)
  zip-numbers [] [] z = tt
  zip-numbers [] (y ∷ ys) z = absurd z
  zip-numbers (x ∷ xs) [] z = absurd z
  zip-numbers (x ∷ xs) (y ∷ ys) z =
      (z.0, zip-other x y z.0 (numbers_once xs) (numbers_once ys) (zip-numbers xs ys z.1))

  requested-zip : (m k : ℕ) → R m k → AllZip R (requested p m) (requested q k)
  requested-zip m k r =
      zip-numbers (filter_map (resolves p m) (requests_in p.settings (tree_of p m)))
      (filter_map (resolves q k) (requests_in q.settings (tree_of q k)))
      (subst
      (λ texts. AllZip R (filter_map (resolves p m) (requests_in p.settings (tree_of p m)))
      (filter_map (resolves q k) texts)) (same_asked p q R w m k r)
      (zip-led m k r (requests_in p.settings (tree_of p m)) (λ s c. c)))

-- Walks, lists and blocks.

-- what holds of each number of a list
abbrev pub AllHave : (ℕ → Type 0) → List ℕ → Type 0
AllHave P xs = (x : ℕ) → Contains xs x → P x

pub have-join : (P : ℕ → Type 0) (xs ys : List ℕ) → AllHave P xs → AllHave P ys →
    AllHave P (xs ++ ys)
have-join P xs ys one two x there = elim (Contains-append_cases xs ys x there) [
  | inl a ↦ one x a
  | inr b ↦ two x b
]

pub have-cons : (P : ℕ → Type 0) (x : ℕ) (xs : List ℕ) → P x → AllHave P xs → AllHave P (x ∷ xs)
have-cons P x xs one two y there = elim (first_or_later x xs y there) [
  | inl e ↦ subst P e one
  | inr rest ↦ two y rest
]

pub have-none : (P : ℕ → Type 0) → AllHave P []
have-none P x there = absurd (no_element there)

pub have-tail : (P : ℕ → Type 0) (x : ℕ) (xs : List ℕ) → AllHave P (x ∷ xs) → AllHave P xs
have-tail P x xs all y there = all y (later x xs y there)

-- what is chosen of a list stands in it
pub members-in : {Has : ℕ → Type 0} {xs ys : List ℕ} → Members Has xs ys → (y : ℕ) →
    Contains ys y → Contains xs y
members-in nothing y there = there
members-in (kept {x} {xs} {ys} has more) y there = elim (first_or_later x ys y there) [
  | inl e ↦ (0, omega arith, e)
  | inr rest ↦ later x xs y (members-in more y rest)
]
members-in (left {x} {xs} {ys} not more) y there = later x xs y (members-in more y there)

-- the blocks have members of the list
pub blocks-in : {Shares : ℕ → ℕ → Type 0} {list rest : List ℕ} {blocks : List (List ℕ)} →
    BlocksOf Shares list rest blocks → (block : List ℕ) → Contains blocks block → (y : ℕ) →
    Contains block y → Contains list y
blocks-in over block there y inside = absurd (no_element there)
blocks-in (ends {block = first} {blocks = blocks} shares none members more) block there y inside =
    elim (first_or_later first blocks block there) [
      | inl e ↦ members-in members y (subst (λ b. Contains b y) (sym e) inside)
      | inr later_on ↦ blocks-in more block later_on y inside
    ]
blocks-in (goes_on either more) block there y inside = blocks-in more block there y inside

module _ (p q : Program) (R : ℕ → ℕ → Type 0) (name back : ℕ → ℕ)
    (its : AreRenamed p q R name back) where
  abbrev w : IsAlike p q R
  w = its.alike

  abbrev Has : ℕ → Type 0
  Has m = R m (name m)

  zip-map : (xs ys : List ℕ) → AllZip R xs ys → (ys ≡ map name xs) × AllHave Has xs
  zip-map [] [] zip = (refl, have-none Has)
  zip-map [] (y ∷ ys) zip = absurd zip
  zip-map (x ∷ xs) [] zip = absurd zip
  zip-map (x ∷ xs) (y ∷ ys) zip =
      let rest = zip-map xs ys zip.1 in (
        ap₂ (λ (z : ℕ) (zs : List ℕ). z ∷ zs) (sym (its.names x y zip.0)) rest.0,
        have-cons Has x xs (named-so p q R name back its x y zip.0) rest.1,
      )

  pub requested-by : (m : ℕ) → Has m → requested q (name m) ≡ map name (requested p m)
  requested-by m r =
      let both =
      zip-map (requested p m) (requested q (name m)) (requested-zip p q R w m (name m) r) in
      both.0

  pub requested-named : (m : ℕ) → Has m → AllHave Has (requested p m)
  requested-named m r =
      let both =
      zip-map (requested p m) (requested q (name m)) (requested-zip p q R w m (name m) r) in
      both.1

  pub name-one : (m n : ℕ) → Has m → Has n → name m ≡ name n → m ≡ n
  name-one m n r s e =
      sym (named-back p q R name back its m r) ∙ ap back e ∙ named-back p q R name back its n s

  pub requests-by : (m n : ℕ) → Has m → Requests p m n → Requests q (name m) (name n)
  requests-by m n r there =
      subst (λ l. Contains l (name n)) (sym (requested-by m r))
      (map_on name (requested p m) n there)

  pub requests-back : (m n : ℕ) → Has m → Has n → Requests q (name m) (name n) → Requests p m n
  requests-back m n r s there =
      let was =
      map_back name (requested p m) (name n)
      (subst (λ l. Contains l (name n)) (requested-by m r) there) in
      subst (Contains (requested p m)) (name-one was.0 n (requested-named m r was.0 was.1) s was.2)
      was.1

  reaches-by : {a b : ℕ} → Reaches (Requests p) a b → Has a → Reaches (Requests q) (name a) (name b)
  reaches-by itself r = itself
  reaches-by {a = a} (along {b = m} edge more) r =
      along (requests-by a m r edge) (reaches-by more (requested-named a r m edge))

  -- the list
  lists-by : {begun done todo all : List ℕ} → Lists (requested p) begun done todo all →
      AllHave Has begun → AllHave Has done → AllHave Has todo →
      Lists (requested q) (map name begun) (map name done) (map name todo) (map name all)
      × AllHave Has all
  lists-by finished a b c = (finished, b)
  lists-by (passed {begun} {done} {todo} {all} {n} there more) a b c =
      let rest = lists-by more a b (have-tail Has n todo c) in (
        passed
            (subst (λ l. Contains l (name n)) (map-append name begun done)
            (map_on name (begun ++ done) n there)) rest.0,
        rest.1,
      )
  lists-by (listed {begun} {done} {before} {todo} {all} {n} not inner outer) a b c =
      let r : Has n = c n (here n todo) in
      let first =
      lists-by inner (have-cons Has n begun r a) b (requested-named n r) in
      let second =
      lists-by outer a
      (have-join Has before (n ∷ []) first.1 (have-cons Has n [] r (have-none Has)))
      (have-tail Has n todo c) in (
        listed
            (λ there.
            let was =
            map_back name (begun ++ done) (name n)
            (subst (λ l. Contains l (name n)) (sym (map-append name begun done)) there) in
            not
            (subst (Contains (begun ++ done))
            (name-one was.0 n (have-join Has begun done a b was.0 was.1) r was.2) was.1))
            (subst
            (λ l. Lists (requested q) (name n ∷ map name begun) (map name done) l (map name before))
            (sym (requested-by n r)) first.0)
            (subst
            (λ l. Lists (requested q) (map name begun) l (map name todo) (map name all))
            (map-append name before (n ∷ [])) second.0),
        second.1,
      )

  both-listed : (list : List ℕ) → IsList p list →
      Lists (requested q) [] [] (name p.entry ∷ []) (map name list) × AllHave Has list
  both-listed list is =
      lists-by is (have-none Has) (have-none Has)
      (have-cons Has p.entry []
      (named-so p q R name back its p.entry q.entry w.entry) (have-none Has))

  pub list-by : (list : List ℕ) → IsList p list → IsList q (map name list)
  list-by list is =
      subst (λ n. Lists (requested q) [] [] (n ∷ []) (map name list))
      (its.names p.entry q.entry w.entry) (both-listed list is).0

  pub list-named : (list : List ℕ) → IsList p list → AllHave Has list
  list-named list is = (both-listed list is).1

  shares-by : (m n : ℕ) → Has m → Has n → SharesBlock p m n → SharesBlock q (name m) (name n)
  shares-by m n r s both = (
    reaches-by both.0 r,
    reaches-by both.1 s,
    λ asked. ap name (both.2 (w.in_standard_order ∙ asked)),
  )

module _ (p q : Program) (R : ℕ → ℕ → Type 0) (name back : ℕ → ℕ)
    (its : AreRenamed p q R name back) where
  abbrev Named : ℕ → Type 0
  Named m = R m (name m)

  shares-back : (m n : ℕ) → Named m → Named n → SharesBlock q (name m) (name n) →
      SharesBlock p m n
  shares-back m n r s both =
      let round = turned-round its in
      let back_m = named-back p q R name back its m r in
      let back_n = named-back p q R name back its n s in
      subst (λ a. SharesBlock p a n) back_m
      (subst (SharesBlock p (back (name m))) back_n
      (shares-by q p (λ a b. R b a) back name round (name m) (name n)
      (subst (λ a. R a (name m)) (sym back_m) r) (subst (λ a. R a (name n)) (sym back_n) s) both))

  members-by : (x : ℕ) → Named x → (list block : List ℕ) → AllHave Named list →
      Members (SharesBlock p x) list block →
      Members (SharesBlock q (name x)) (map name list) (map name block)
  members-by x r [] [] all nothing = nothing
  members-by x r [] (_ ∷ block) all its = elim its [ ]
  members-by x r (y ∷ list) (_ ∷ block) all (kept has more) =
      kept (shares-by p q R name back its x y r (all y (here y list)) has)
      (members-by x r list block (have-tail Named y list all) more)
  members-by x r (y ∷ list) block all (left not more) =
      left (λ shares. not (shares-back x y r (all y (here y list)) shares))
      (members-by x r list block (have-tail Named y list all) more)

  blocks-of-by : (list : List ℕ) → AllHave Named list → (rest : List ℕ)
      (blocks : List (List ℕ)) → AllHave Named rest →
      BlocksOf (SharesBlock p) list rest blocks →
      BlocksOf (SharesBlock q) (map name list) (map name rest) (map (map name) blocks)
  blocks-of-by list all [] [] rest over = over
  blocks-of-by list all [] (_ ∷ blocks) rest its = elim its [ ]
  blocks-of-by list all (x ∷ more) (block ∷ blocks) rest (ends shares none members others) =
      let r = rest x (here x more) in
      ends (shares-by p q R name back its x x r r shares)
      (λ y there other.
      let was = map_back name more y there in
      let s = rest was.0 (later x more was.0 was.1) in
      none was.0 was.1
      (shares-back x was.0 r s (subst (SharesBlock q (name x)) (sym was.2) other)))
      (members-by x r list block all members)
      (blocks-of-by list all more blocks (have-tail Named x more rest) others)
  blocks-of-by list all (x ∷ more) blocks rest (goes_on either others) =
      let r = rest x (here x more) in
      goes_on {rest = map name more} (elim either [
        | inl none ↦ inl (λ shares. none (shares-back x x r r shares))
        | inr one ↦ inr (
          name one.0,
          map_on name more one.0 one.1,
          shares-by p q R name back its x one.0 r (rest one.0 (later x more one.0 one.1)) one.2,
        )
      ]) (blocks-of-by list all more blocks (have-tail Named x more rest) others)

  pub blocks-by : (list : List ℕ) (blocks : List (List ℕ)) → IsList p list →
      AreBlocks p list blocks → AreBlocks q (map name list) (map (map name) blocks)
  blocks-by list blocks is are =
      let all = list-named p q R name back its list is in
      blocks-of-by list all list blocks all are

  pub blocks-named : (list : List ℕ) (blocks : List (List ℕ)) → IsList p list →
      AreBlocks p list blocks → (block : List ℕ) → Contains blocks block → AllHave Named block
  blocks-named list blocks is are block there x inside =
      list-named p q R name back its list is x (blocks-in are block there x inside)

  pub follows-by : (blocks : List (List ℕ)) →
      ((block : List ℕ) → Contains blocks block → AllHave Named block) →
      FollowsRequests p blocks → FollowsRequests q (map (map name) blocks)
  follows-by blocks all follows i j m n block other at to in_block in_other requests =
      let a = mapped-at (map name) blocks i block at in
      let b = mapped-at (map name) blocks j other to in
      let x = map_back name a.0 m (subst (λ l. Contains l m) (sym a.2) in_block) in
      let y = map_back name b.0 n (subst (λ l. Contains l n) (sym b.2) in_other) in
      let r = all a.0 (contains-get blocks i a.0 a.1) x.0 x.1 in
      let s = all b.0 (contains-get blocks j b.0 b.1) y.0 y.1 in
      follows i j x.0 y.0 a.0 b.0 a.1 b.1 x.1 y.1
      (requests-back p q R name back its x.0 y.0 r s
      (subst (λ l. Requests q l (name y.0)) (sym x.2) (subst (Requests q m) (sym y.2) requests)))

-- ---- symbols
find-same : {A : Type 0} (f g : A → Bool) (xs : List A) →
    ((x : A) → Contains xs x → f x ≡ g x) → find f xs ≡ find g xs
find-same f g [] same = refl
find-same f g (x ∷ xs) same =
    ap (λ b. cond b (Some x) (find f xs)) (same x (here x xs))
    ∙ ap (λ o. cond (g x) (Some x) o) (find-same f g xs (λ y there. same y (later x xs y there)))

-- what is taken of another module is called alike by tests that agree on what is asked for
taken-same : (asks other : Text → Bool) (taken : Taken) (tree : List Item) →
    ((s : Text) → Contains (declared_requests tree) s → asks s ≡ other s) →
    taken_name asks taken (imports_of tree) (exports_of tree)
    ≡ taken_name other taken (imports_of tree) (exports_of tree)
taken-same asks other taken tree same = by taken
  where
    first : (taken : Taken) →
        importing asks taken (imports_of tree) ≡ importing other taken (imports_of tree)
    first taken =
        find-same (λ (entry : ImportEntry). asks entry.specifier && same_taken entry.taken taken)
        (λ (entry : ImportEntry). other entry.specifier && same_taken entry.taken taken)
        (imports_of tree) (λ entry there.
        ap (λ b. b && same_taken entry.taken taken)
        (same entry.specifier (import_asks tree entry there)))

    export-same : (entry : ExportEntry) → Contains (exports_of tree) entry →
        exports_whole asks entry ≡ exports_whole other entry
    export-same (Indirect x s Whole_symbols) there = same s (entry_asks tree x s Whole_symbols there)
    export-same (Indirect x s (Named_symbols y)) there = refl
    export-same (Local x y) there = refl
    export-same (Star s) there = refl

    by : (taken : Taken) →
        taken_name asks taken (imports_of tree) (exports_of tree)
        ≡ taken_name other taken (imports_of tree) (exports_of tree)
    by (Named_symbols x) =
        ap (λ o. unwrap_or (option_map (λ (entry : ImportEntry). entry.local) o) (identifier_of x))
        (first (Named_symbols x))
    by Whole_symbols =
        ap₂
        (λ o e. unwrap_or (option_map (λ (entry : ImportEntry). entry.local) o)
        (identifier_of (unwrap_or (option_map exported_name e) [])))
        (first Whole_symbols)
        (find-same (exports_whole asks) (exports_whole other) (exports_of tree) export-same)

module _ (p q : Program) (R : ℕ → ℕ → Type 0) (name back : ℕ → ℕ)
    (its : AreRenamed p q R name back) where
  abbrev w_symbols : IsAlike p q R
  w_symbols = its.alike

  abbrev HasSymbols : ℕ → Type 0
  HasSymbols m = R m (name m)

  imports-by : (list : List ℕ) → AllHave HasSymbols list →
      flat_map (imports p) list ≡ flat_map (imports q) (map name list)
  imports-by [] all = refl
  imports-by (m ∷ list) all =
      ap₂ (λ (xs ys : List ImportEntry). xs ++ ys)
      (ap imports_of (w_symbols.tree m (name m) (all m (here m list))))
      (imports-by list (have-tail HasSymbols m list all))

  exports-by : (list : List ℕ) → AllHave HasSymbols list →
      flat_map (exports p) list ≡ flat_map (exports q) (map name list)
  exports-by [] all = refl
  exports-by (m ∷ list) all =
      ap₂ (λ (xs ys : List ExportEntry). xs ++ ys)
      (ap exports_of (w_symbols.tree m (name m) (all m (here m list))))
      (exports-by list (have-tail HasSymbols m list all))

  number-same : (a c : ℕ) → HasSymbols a → HasSymbols c → (a == c) ≡ (name a == name c)
  number-same a c r s = by (a == c) (name a == name c) refl refl
    where
      by : (x y : Bool) → (a == c) ≡ x → (name a == name c) ≡ y → x ≡ y
      by true true e f = refl
      by false false e f = refl
      by true false e f =
          absurd (false≢true (sym f ∙ eq-eqb (name a) (name c) (ap name (eqb-true a c e))))
      by false true e f =
          absurd
          (false≢true
          (sym e
          ∙ eq-eqb a c (name-one p q R name back its a c r s (eqb-true (name a) (name c) f))))

  -- what is asked for is the one module there as here
  asks-same : (m c : ℕ) → HasSymbols m → HasSymbols c → (s : Text) →
      Contains (declared_requests (tree_of p m)) s →
      is_number (resolves p m s) c ≡ is_number (resolves q (name m) s) (name c)
  asks-same m c r h s asked = by (resolves p m s) (resolves q (name m) s) refl refl
    where
      by : (x y : Option ℕ) → resolves p m s ≡ x → resolves q (name m) s ≡ y →
          is_number x c ≡ is_number y (name c)
      by None None e f = refl
      by None (Some d) e f =
          let on =
          declared_on q p (λ a b. R b a) (flip w_symbols) (name m) m d s r
          (subst (λ (tree : List Item). Contains (declared_requests tree) s)
          (w_symbols.tree m (name m) r) asked) f in
          absurd (none-some on.0 (sym e ∙ on.2))
      by (Some a) None e f =
          let on = declared_on p q R w_symbols m (name m) a s r asked e in
          absurd (none-some on.0 (sym f ∙ on.2))
      by (Some a) (Some d) e f =
          let on = declared_on p q R w_symbols m (name m) a s r asked e in
          let same : d ≡ name a =
          same_Some d on.0 (sym f ∙ on.2) ∙ sym (its.names a on.0 on.1) in
          number-same a c (named-so p q R name back its a on.0 on.1) h
          ∙ ap (λ n. n == name c) (sym same)

  -- what a label is called
  pub symbol-by : (list : List ℕ) → AllHave HasSymbols list → (l : Label) → IsLabelReached p l →
      symbol_of_label p list l ≡ symbol_of_label q (map name list) (label_by name l)
  symbol-by list all (Of (Declared m x)) r = refl
  symbol-by list all (Of (Namespace m)) r = refl
  symbol-by list all (Of (External s taken)) r =
      ap₂ (λ (xs : List ImportEntry) (ys : List ExportEntry). taken_name (bytes_eq s) taken xs ys)
      (imports-by list all) (exports-by list all)
  symbol-by list all (Of (CommonJs m c taken)) r =
      let h : HasSymbols m = reach-named p q R name back its m r.0 in
      let k : HasSymbols c = reach-named p q R name back its c r.1 in
      taken-same (λ s. is_number (resolves p m s) c)
      (λ s. is_number (resolves q (name m) s) (name c)) taken (tree_of p m)
      (λ s asked. asks-same m c h k s asked)
      ∙ ap
      (λ (tree : List Item). taken_name (λ s. is_number (resolves q (name m) s) (name c)) taken
      (imports_of tree) (exports_of tree)) (w_symbols.tree m (name m) h)
  symbol-by list all (Parameter c x) r = refl
  symbol-by list all (Load c) r = refl
  symbol-by list all (Meta m) r = refl
  symbol-by list all Helper r = refl
