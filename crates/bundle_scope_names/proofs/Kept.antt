-- A tree with other contexts, as `with_idents` makes it, is the same but for contexts, and has those.
use Rattle.std.proofs.Common.{◌≡◌, ◌≢◌, ℕ, zero, suc, ◌+◌, ◌==◌, ◌&&◌, Bool, false, not, List, [], ◌∷◌, ◌++◌, Option, Some, None, map, take, slice_get, fold, length, refl, ap, sym, ◌∙◌, subst, arith, append_assoc, append-nil}
use Rattle.std.specs.Prelude.{if◌then◌else◌}
use Rattle.std.specs.List.{cons_option}
use Rattle.std.proofs.Math.Seq.{take-append_seam}
use Rattle.std.proofs.lemmas.Bool.{and_right}
use Rattle.std.proofs.lemmas.Slice.Eq.{bytes_eq-Decides}
use Rattle.bundle_syntax.specs.declared.piece.Role.{Role}
use Rattle.bundle_syntax.specs.declared.piece.Role.TheVariants as r
use Rattle.bundle_syntax.specs.Item as h
use Rattle.bundle_syntax.specs.Item.{Item, Head}
use Rattle.bundle_rules.specs.Places.{Around, Spot, past, start, path_at, in_field, Occurrence, occurrence_of, occurrences_from, occurrences}
use Rattle.bundle_rules.specs.Idents.{Ident, ident_of, idents}
use Rattle.bundle_rules.specs.Shorthands.{ends_at, has_default, is_shorthand_in_pattern, symbol_of}
use Rattle.bundle_rules.specs.Rebuilds.{Change, change_at, spells_out, is_key_spelled_out, pattern_front, new_begin, new_end, new_occurrence, new_item, rebuilt_from, rebuilt, changes_to, with_idents}
use Rattle.bundle_rules.specs.Scopes.{ModuleKind, Scope, scope_order}
use Rattle.bundle_rules.specs.Declarations.{BySymbol, Name, declared}
use Rattle.bundle_rules.specs.Denotes.{Bound, denoted_of, denotations}
use Rattle.bundle_scope_names.specs.Resolution.{with_contexts}
use Rattle.bundle_scope_names.proofs.Numbering.{Numbering, context_of, without_context, without_contexts, IsNumbered}
use Rattle.bundle_scope_names.proofs.TreeLemmas.{its_context, occurrences-are, map-map as map-twice, set_by, IsLike, Same, Named, AreLike, Done, More, ctxts, like-past}

-- the changes to other contexts: nothing is spelled out
abbrev pub plain_changes : List Occurrence → List ℕ → List Change
plain_changes [] cs = []
plain_changes (o ∷ os) [] = []
plain_changes (o ∷ os) (c ∷ cs) = record { ident = (o.sym, c); is_spelled_out = false } ∷ plain_changes os cs

pub changes-plain : (os : List Occurrence) (cs : List ℕ) → changes_to (map ident_of os) (with_contexts os cs) ≡ plain_changes os cs
changes-plain [] cs = refl
changes-plain (o ∷ os) [] = refl
changes-plain (o ∷ os) (c ∷ cs) = ap (λ (b : Bool). record { ident = (o.sym, c); is_spelled_out = not b } ∷ changes_to (map ident_of os) (with_contexts os cs)) ((bytes_eq-Decides o.sym o.sym).1 refl) ∙ ap (λ changes. record { ident = (o.sym, c); is_spelled_out = false } ∷ changes) (changes-plain os cs)

none-spelled : (os : List Occurrence) (cs : List ℕ) (i : ℕ) → spells_out (slice_get (plain_changes os cs) i) ≡ false
none-spelled [] cs i = refl
none-spelled (o ∷ os) [] i = refl
none-spelled (o ∷ os) (c ∷ cs) zero = refl
none-spelled (o ∷ os) (c ∷ cs) (suc i) = none-spelled os cs i

-- what begins and ends stays
begin-stays : (tree : List Item) (changes : List Change) (place field : ℕ) (around : List Around) (head : Head) → ((begins : ℕ) → is_key_spelled_out tree changes begins ≡ false) → new_begin tree changes place field around head ≡ h.Open field head ∷ []
begin-stays tree changes place field around h.AssignPatProp none = ap (λ b. if b then pattern_front field (symbol_of (slice_get tree (place + 2))) (has_default tree place) else h.Open field h.AssignPatProp ∷ []) (none place)
begin-stays tree changes place field [] _ none = refl
begin-stays tree changes place field (node ∷ outer) head none = ap (λ b. if b then h.Open (if has_default tree node.begins then 0 else 1) head ∷ [] else h.Open field head ∷ []) (and_right (is_shorthand_in_pattern node.head && node.field == 0) (is_key_spelled_out tree changes node.begins) (none node.begins))

end-stays : (tree : List Item) (changes : List Change) (around : List Around) → ((begins : ℕ) → is_key_spelled_out tree changes begins ≡ false) → new_end tree changes around ≡ h.Close ∷ []
end-stays tree changes [] none = refl
end-stays tree changes (node ∷ outer) none = ap (λ b. if b then h.Close ∷ h.Close ∷ [] else h.Close ∷ []) (and_right (is_shorthand_in_pattern node.head && has_default tree node.begins) (is_key_spelled_out tree changes node.begins) (none node.begins))

-- an occurrence takes its context
name-takes : (field : ℕ) (around : List Around) (is_last : Bool) (x : List ℕ) (c n : ℕ) (role : Role) → new_occurrence field around is_last x c role (Some (record { ident = (x, n); is_spelled_out = false })) ≡ h.Ident field x n role ∷ []
name-takes field [] is_last x c n role = refl
name-takes field (node ∷ outer) is_last x c n role = refl

-- the occurrences of two lists in a row
pub occurrences-append : (spot : Spot) (xs ys : List Item) → occurrences_from spot (xs ++ ys) ≡ occurrences_from spot xs ++ occurrences_from (fold past spot xs) ys
occurrences-append spot [] ys = refl
occurrences-append spot (x ∷ xs) ys = ap (cons_option (occurrence_of spot x)) (occurrences-append (past spot x) xs ys) ∙ cons-append (occurrence_of spot x) (occurrences_from (past spot x) xs) _
  where
    cons-append : (o : Option Occurrence) (os qs : List Occurrence) → cons_option o (os ++ qs) ≡ cons_option o os ++ qs
    cons-append None os qs = refl
    cons-append (Some o) os qs = refl

-- the change of the next occurrence
plain-next : (os : List Occurrence) (o : Occurrence) (qs : List Occurrence) (cs : List ℕ) (c : ℕ) (ds : List ℕ) → length cs ≡ length os → slice_get (plain_changes (os ++ o ∷ qs) (cs ++ c ∷ ds)) (length os) ≡ Some (record { ident = (o.sym, c); is_spelled_out = false })
plain-next [] o qs [] c ds e = refl
plain-next [] o qs (d ∷ cs) c ds e = absurd (omega (arith, e))
plain-next (p ∷ os) o qs [] c ds e = absurd (omega (arith, e))
plain-next (p ∷ os) o qs (d ∷ cs) c ds e = let later : length cs ≡ length os = omega (arith, e) in plain-next os o qs cs c ds later

-- What is made of the elements from a place on.
abbrev Made : List Item → List Change → Spot → ℕ → List Item → List ℕ → Type 0
Made tree changes spot place rest cs = AreLike rest (rebuilt_from tree changes place rest) × (ctxts (occurrences_from spot (rebuilt_from tree changes place rest)) ≡ cs)

-- one element more
made-none : (tree : List Item) (changes : List Change) (spot : Spot) (place : ℕ) (x y : Item) (rest : List Item) (cs : List ℕ) → IsLike x y → new_item tree changes place (path_at tree place) x ≡ y ∷ [] → occurrence_of spot y ≡ None → Made tree changes (past spot x) (suc place) rest cs → Made tree changes spot place (x ∷ rest) cs
made-none tree changes spot place x y rest cs like item none made =
    let later : List Item = rebuilt_from tree changes (suc place) rest in
    let whole : rebuilt_from tree changes place (x ∷ rest) ≡ y ∷ later = ap (λ l. l ++ later) item in
    (subst (AreLike (x ∷ rest)) (sym whole) (More like made.0), ap (λ l. ctxts (occurrences_from spot l)) whole ∙ ap (λ o. ctxts (cons_option o (occurrences_from (past spot y) later))) none ∙ ap (λ s. ctxts (occurrences_from s later)) (like-past like spot) ∙ made.1)

made-some : (tree : List Item) (changes : List Change) (spot : Spot) (place : ℕ) (x y : Item) (rest : List Item) (o : Occurrence) (cs : List ℕ) → IsLike x y → new_item tree changes place (path_at tree place) x ≡ y ∷ [] → occurrence_of spot y ≡ Some o → Made tree changes (past spot x) (suc place) rest cs → Made tree changes spot place (x ∷ rest) (o.ctxt ∷ cs)
made-some tree changes spot place x y rest o cs like item some made =
    let later : List Item = rebuilt_from tree changes (suc place) rest in
    let whole : rebuilt_from tree changes place (x ∷ rest) ≡ y ∷ later = ap (λ l. l ++ later) item in
    (subst (AreLike (x ∷ rest)) (sym whole) (More like made.0), ap (λ l. ctxts (occurrences_from spot l)) whole ∙ ap (λ q. ctxts (cons_option q (occurrences_from (past spot y) later))) some ∙ ap (λ s. o.ctxt ∷ ctxts (occurrences_from s later)) (like-past like spot) ∙ ap (λ ds. o.ctxt ∷ ds) made.1)

-- where the elements before this place are these, with as many contexts as occurrences
pub record IsAt (tree : List Item) (cs : List ℕ) (pre rest : List Item) (used left : List ℕ) : Type 0 where
  pub whole : tree ≡ pre ++ rest
  pub contexts : cs ≡ used ++ left
  pub so_far : length used ≡ length (occurrences pre)
  pub to_come : length left ≡ length (occurrences_from (fold past start pre) rest)

fold-append : (spot : Spot) (xs : List Item) (x : Item) → fold past spot (xs ++ x ∷ []) ≡ past (fold past spot xs) x
fold-append spot [] x = refl
fold-append spot (y ∷ ys) x = fold-append (past spot y) ys x

pub length-snoc : {A : Type 0} (xs : List A) (x : A) → length (xs ++ x ∷ []) ≡ suc (length xs)
length-snoc [] x = refl
length-snoc (y ∷ ys) x = ap suc (length-snoc ys x)

-- past an element that is no occurrence, and past one that is
next-none : (tree : List Item) (cs : List ℕ) (pre : List Item) (x : Item) (rest : List Item) (used left : List ℕ) → occurrence_of (fold past start pre) x ≡ None → IsAt tree cs pre (x ∷ rest) used left → IsAt tree cs (pre ++ x ∷ []) rest used left
next-none tree cs pre x rest used left none at = record {
  whole = at.whole ∙ sym (append_assoc pre (x ∷ []) rest);
  contexts = at.contexts;
  so_far = at.so_far ∙ sym (ap length (occurrences-append start pre (x ∷ []) ∙ ap (λ o. occurrences pre ++ cons_option o []) none ∙ append-nil (occurrences pre)));
  to_come = at.to_come ∙ ap (λ o. length (cons_option o (occurrences_from (past (fold past start pre) x) rest))) none ∙ ap (λ s. length (occurrences_from s rest)) (sym (fold-append start pre x));
}

next-some : (tree : List Item) (cs : List ℕ) (pre : List Item) (x : Item) (rest : List Item) (used : List ℕ) (c : ℕ) (left : List ℕ) (o : Occurrence) → occurrence_of (fold past start pre) x ≡ Some o → IsAt tree cs pre (x ∷ rest) used (c ∷ left) → IsAt tree cs (pre ++ x ∷ []) rest (used ++ c ∷ []) left
next-some tree cs pre x rest used c left o some at =
    let count : length (occurrences (pre ++ x ∷ [])) ≡ suc (length (occurrences pre)) = ap length (occurrences-append start pre (x ∷ []) ∙ ap (λ q. occurrences pre ++ cons_option q []) some) ∙ length-snoc (occurrences pre) o in
    let come : suc (length left) ≡ suc (length (occurrences_from (past (fold past start pre) x) rest)) = at.to_come ∙ ap (λ q. length (cons_option q (occurrences_from (past (fold past start pre) x) rest))) some in
    record {
      whole = at.whole ∙ sym (append_assoc pre (x ∷ []) rest);
      contexts = at.contexts ∙ sym (append_assoc used (c ∷ []) left);
      so_far = length-snoc used c ∙ ap suc at.so_far ∙ sym count;
      to_come = let same : length left ≡ length (occurrences_from (past (fold past start pre) x) rest) = omega (arith, come) in same ∙ ap (λ s. length (occurrences_from s rest)) (sym (fold-append start pre x));
    }

-- the change at this place
change-here : (tree : List Item) (cs : List ℕ) (pre : List Item) (x : Item) (rest : List Item) (used : List ℕ) (c : ℕ) (left : List ℕ) (o : Occurrence) → occurrence_of (fold past start pre) x ≡ Some o → IsAt tree cs pre (x ∷ rest) used (c ∷ left) → change_at tree (plain_changes (occurrences tree) cs) (length pre) ≡ Some (record { ident = (o.sym, c); is_spelled_out = false })
change-here tree cs pre x rest used c left o some at =
    ap (λ t. slice_get (plain_changes (occurrences tree) cs) (length (occurrences t))) (ap (take (length pre)) at.whole ∙ take-append_seam pre (x ∷ rest))
    ∙ ap (λ t. slice_get (plain_changes (occurrences t) cs) (length (occurrences pre))) at.whole
    ∙ ap (λ os. slice_get (plain_changes os cs) (length (occurrences pre))) (occurrences-append start pre (x ∷ rest) ∙ ap (λ q. occurrences pre ++ cons_option q (occurrences_from (past (fold past start pre) x) rest)) some)
    ∙ ap (λ ds. slice_get (plain_changes (occurrences pre ++ o ∷ occurrences_from (past (fold past start pre) x) rest) ds) (length (occurrences pre))) at.contexts
    ∙ plain-next (occurrences pre) o (occurrences_from (past (fold past start pre) x) rest) used c left at.so_far

-- the elements from a place on
made-from : (tree : List Item) (cs : List ℕ) (rest pre : List Item) (used left : List ℕ) → IsAt tree cs pre rest used left → Made tree (plain_changes (occurrences tree) cs) (fold past start pre) (length pre) rest left
made-from tree cs [] pre used [] at = (Done, refl)
made-from tree cs [] pre used (c ∷ left) at = absurd (omega (arith, at.to_come))
made-from tree cs (x ∷ rest) pre used left at = by_item x left at (λ used2 left2 at2. subst (λ n. Made tree (plain_changes (occurrences tree) cs) (past (fold past start pre) x) n rest left2) (length-snoc pre x) (subst (λ s. Made tree (plain_changes (occurrences tree) cs) s (length (pre ++ x ∷ [])) rest left2) (fold-append start pre x) (made-from tree cs rest (pre ++ x ∷ []) used2 left2 at2)))
  where
    none : (begins : ℕ) → is_key_spelled_out tree (plain_changes (occurrences tree) cs) begins ≡ false
    none begins = none-spelled (occurrences tree) cs (length (occurrences (take (begins + 2) tree)))

    by_item : (z : Item) (left : List ℕ) → IsAt tree cs pre (z ∷ rest) used left → ((used2 left2 : List ℕ) → IsAt tree cs (pre ++ z ∷ []) rest used2 left2 → Made tree (plain_changes (occurrences tree) cs) (past (fold past start pre) z) (suc (length pre)) rest left2) → Made tree (plain_changes (occurrences tree) cs) (fold past start pre) (length pre) (z ∷ rest) left
    by_item (h.Open field head) left at ih = made-none tree (plain_changes (occurrences tree) cs) (fold past start pre) (length pre) (h.Open field head) (h.Open field head) rest left (Same (h.Open field head)) (begin-stays tree (plain_changes (occurrences tree) cs) (length pre) field (path_at tree (length pre)) head none) refl (ih used left (next-none tree cs pre (h.Open field head) rest used left refl at))
    by_item (h.Hole field) left at ih = made-none tree (plain_changes (occurrences tree) cs) (fold past start pre) (length pre) (h.Hole field) (h.Hole field) rest left (Same (h.Hole field)) refl refl (ih used left (next-none tree cs pre (h.Hole field) rest used left refl at))
    by_item h.Close left at ih = made-none tree (plain_changes (occurrences tree) cs) (fold past start pre) (length pre) h.Close h.Close rest left (Same h.Close) (end-stays tree (plain_changes (occurrences tree) cs) (path_at tree (length pre)) none) refl (ih used left (next-none tree cs pre h.Close rest used left refl at))
    by_item (h.Ident field x c r.Word) left at ih = made-none tree (plain_changes (occurrences tree) cs) (fold past start pre) (length pre) (h.Ident field x c r.Word) (h.Ident field x c r.Word) rest left (Same (h.Ident field x c r.Word)) refl refl (ih used left (next-none tree cs pre (h.Ident field x c r.Word) rest used left refl at))
    by_item (h.Ident field x c r.Binding) [] at ih = absurd (omega (arith, at.to_come))
    by_item (h.Ident field x c r.Reference) [] at ih = absurd (omega (arith, at.to_come))
    by_item (h.Ident field x c r.Binding) (n ∷ left) at ih = made-some tree (plain_changes (occurrences tree) cs) (fold past start pre) (length pre) (h.Ident field x c r.Binding) (h.Ident field x n r.Binding) rest (record { place = (fold past start pre).place; sym = x; ctxt = n; role = r.Binding; path = in_field field (fold past start pre).path }) left (Named field x c n r.Binding) (ap (new_occurrence field (path_at tree (length pre)) (ends_at (slice_get tree (suc (length pre)))) x c r.Binding) (change-here tree cs pre (h.Ident field x c r.Binding) rest used n left _ refl at) ∙ name-takes field (path_at tree (length pre)) _ x c n r.Binding) refl (ih (used ++ n ∷ []) left (next-some tree cs pre (h.Ident field x c r.Binding) rest used n left _ refl at))
    by_item (h.Ident field x c r.Reference) (n ∷ left) at ih = made-some tree (plain_changes (occurrences tree) cs) (fold past start pre) (length pre) (h.Ident field x c r.Reference) (h.Ident field x n r.Reference) rest (record { place = (fold past start pre).place; sym = x; ctxt = n; role = r.Reference; path = in_field field (fold past start pre).path }) left (Named field x c n r.Reference) (ap (new_occurrence field (path_at tree (length pre)) (ends_at (slice_get tree (suc (length pre)))) x c r.Reference) (change-here tree cs pre (h.Ident field x c r.Reference) rest used n left _ refl at) ∙ name-takes field (path_at tree (length pre)) _ x c n r.Reference) refl (ih (used ++ n ∷ []) left (next-some tree cs pre (h.Ident field x c r.Reference) rest used n left _ refl at))

-- a tree with other contexts is like it, and has them
pub with_contexts-like : (tree : List Item) (cs : List ℕ) → length cs ≡ length (occurrences tree) → AreLike tree (with_idents tree (with_contexts (occurrences tree) cs)) × (ctxts (occurrences (with_idents tree (with_contexts (occurrences tree) cs))) ≡ cs)
with_contexts-like tree cs e = subst (λ changes. AreLike tree (rebuilt tree changes) × (ctxts (occurrences (rebuilt tree changes)) ≡ cs)) (sym (changes-plain (occurrences tree) cs)) (made-from tree cs tree [] [] cs (record { whole = refl; contexts = refl; so_far = refl; to_come = e }))

-- the same as lists without contexts
like-without : {x y : Item} → IsLike x y → without_context x ≡ without_context y
like-without (Same item) = refl
like-without (Named field x c c2 role) = refl

pub alike-without : {xs ys : List Item} → AreLike xs ys → without_contexts xs ≡ without_contexts ys
alike-without Done = refl
alike-without (More {x = x} {y = y} {xs = xs} {ys = ys} first rest) = ap (λ z. z ∷ without_contexts xs) (like-without first) ∙ ap (λ zs. without_context y ∷ zs) (alike-without rest)

length-map : {A B : Type 0} (f : A → B) (xs : List A) → length (map f xs) ≡ length xs
length-map f [] = refl
length-map f (x ∷ xs) = ap suc (length-map f xs)

-- the tree that a resolver makes: each occurrence with the number of what it denotes by its symbol
abbrev pub resolved_by : Numbering → ModuleKind → List Item → List Item
resolved_by f kind before = with_idents before (with_contexts (occurrences before) (map (context_of f) (denotations BySymbol kind before)))

-- it is numbered so, where the numbers tell bindings apart
pub numbered : (f : Numbering) (kind : ModuleKind) (before : List Item) → ((i : ℕ) (s : Scope) (m : Name) → slice_get (denotations BySymbol kind before) i ≡ Some (Bound s m) → f (scope_order s) m.sym ≢ 1) → ((i j : ℕ) (s t : Scope) (m n : Name) → slice_get (denotations BySymbol kind before) i ≡ Some (Bound s m) → slice_get (denotations BySymbol kind before) j ≡ Some (Bound t n) → m.sym ≡ n.sym → f (scope_order s) m.sym ≡ f (scope_order t) n.sym → scope_order s ≡ scope_order t) → IsNumbered f kind before (resolved_by f kind before)
numbered f kind before own apart =
    let like = with_contexts-like before (map (context_of f) (denotations BySymbol kind before)) (length-map (context_of f) (denotations BySymbol kind before) ∙ length-map (denoted_of BySymbol kind (declared BySymbol kind before)) (occurrences before)) in
    record {
      same = alike-without like.0;
      contexts = like.1;
      own = own;
      apart = apart;
    }

-- and it has just these identifiers: it is the tree before with the identifiers that it has
idents-set : (g : Occurrence → ℕ) (os : List Occurrence) → map ident_of (map (set_by g) os) ≡ with_contexts os (map g os)
idents-set g [] = refl
idents-set g (o ∷ os) = ap (λ is. (o.sym, g o) ∷ is) (idents-set g os)

pub same-idents : (f : Numbering) (kind : ModuleKind) (before after : List Item) → IsNumbered f kind before after → idents after ≡ with_contexts (occurrences before) (map (context_of f) (denotations BySymbol kind before))
same-idents f kind before after n =
    ap (map ident_of) (occurrences-are f kind before after n)
    ∙ idents-set (its_context f kind (declared BySymbol kind before)) (occurrences before)
    ∙ ap (with_contexts (occurrences before)) (sym (map-twice (context_of f) (denoted_of BySymbol kind (declared BySymbol kind before)) (occurrences before)))
