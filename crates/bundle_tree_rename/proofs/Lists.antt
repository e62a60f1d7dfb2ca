-- Parts of a tree that were renamed make a whole.
use Rattle.std.proofs.Common.{◌≡◌, ℕ, ◌+◌, ◌<◌, ◌≤◌, ◌≢◌, arith, List, [], ◌∷◌, ◌++◌, sym, subst, ap, ◌∙◌, take, drop, length, get_or, Vec, Global, string_bytes, true, Result, Ok, Err, IfOk}
use Rattle.std.specs.Prelude.{slice_set}
use Rattle.std.specs.List.{flat_map}
use Rattle.std.proofs.lemmas.Grind.{take_at_read, flat_map-append}
use Rattle.std.proofs.lemmas.List.{take_all, take_more_set, length-set, get_or-set_other}
use Rattle.bundle_syntax.specs.declared.ident.Ident as v_ident
use Rattle.bundle_syntax.specs.declared.piece.Role.{Role}
use Rattle.bundle_syntax.specs.Item.{Item}
use Rattle.bundle_tree_listed.specs.Tree.{ident_items}
use Rattle.bundle_tree_places.specs.Edits.{Around, Anywhere, is_occurrence}
use Rattle.bundle_tree_rename.specs.Naming.{Naming}
use Rattle.bundle_tree_rename.specs.Parts.{each}
use Rattle.bundle_tree_rename.specs.Renamed.{Renamed, Takes}
use Rattle.bundle_tree_rename.specs.Renames.{Renames, Nothing, Joined, Name}

-- where a part is renamed, so is what it stands in
pub if_ok : {T E : Type 0} {P Q : Type 0} (result : Result T E) → (P → Q) → IfOk result (λ done. P) → IfOk result (λ done. Q)
if_ok (Ok done) so one = so one
if_ok (Err error) so one = one

-- the same of two parts of what is known of it
pub if_both : {T E : Type 0} {P Q R : Type 0} (result : Result T E) → (P → Q → R) → IfOk result (λ done. P) → IfOk result (λ done. Q) → IfOk result (λ done. R)
if_both (Ok done) so one two = so one two
if_both (Err error) so one two = one

-- before the first element of a list nothing is renamed
pub none_so_far : (around : Around) {A : Type 0} (items : ℕ → A → List Item) {names : List Naming} → Renamed around (each items) names [] [] names
none_so_far around items = record { in_field = λ field. Nothing }

-- one after another
joined : (around : Around) {A : Type 0} (items : ℕ → A → List Item) {names between rest : List Naming} {read made : List A} {x y : A} → Renamed around (each items) names read made between → Renamed around items between x y rest → (field : ℕ) → Renames around names (flat_map (items field) (read ++ x ∷ [])) (flat_map (items field) (made ++ y ∷ [])) rest
joined around items {names = names} {rest = rest} {read = read} {made = made} {x = x} {y = y} front last field =
    let both : Renames around names (flat_map (items field) read ++ (items field x ++ [])) (flat_map (items field) made ++ (items field y ++ [])) rest = Joined (front.in_field field) (Joined (last.in_field field) Nothing) in
    subst (λ list. Renames around names list (flat_map (items field) (made ++ y ∷ [])) rest) (sym (flat_map-append (items field) read (x ∷ [])))
    (subst (λ list. Renames around names (flat_map (items field) read ++ (items field x ++ [])) list rest) (sym (flat_map-append (items field) made (y ∷ []))) both)

-- the elements from this place on are what they were
abbrev pub Unvisited : {A : Type 0} → ℕ → (olds news : List A) → Type 0
Unvisited {A = A} i olds news = (length news ≡ length olds) × ((k : ℕ) (d : A) → i ≤ k → get_or news k d ≡ get_or olds k d)

-- one element less
pub visited : {A : Type 0} (olds news : List A) (i : ℕ) (y : A) → Unvisited i olds news → Unvisited (i + 1) olds (slice_set news i y)
visited olds news i y same = (length-set news i y ∙ same.0, λ k d over. let other : k ≢ i = omega (arith, over) in get_or-set_other news i k y d other ∙ same.1 k d (omega (arith, over)))

-- one element more, where it stands
pub one_more : (around : Around) {A : Type 0} (items : ℕ → A → List Item) {names between rest : List Naming} (olds news : List A) (i : ℕ) {x y : A} → i < length olds → Unvisited i olds news → x ≡ get_or news i x → Renamed around (each items) names (take i olds) (take i news) between → Renamed around items between x y rest → Renamed around (each items) names (take (i + 1) olds) (take (i + 1) (slice_set news i y)) rest
one_more around items {names = names} {rest = rest} olds news i {x = x} {y = y} below same is front last = record {
  in_field = λ field.
      let was : x ≡ get_or olds i x = is ∙ same.1 i x (omega arith) in
      let read : take (i + 1) olds ≡ take i olds ++ x ∷ [] = (take_at_read olds i x below).1 ∙ ap (λ it. take i olds ++ it ∷ []) (sym was) in
      let made : take (i + 1) (slice_set news i y) ≡ take i news ++ y ∷ [] = take_more_set news i y (subst (λ n. i < n) (sym same.0) below) in
      subst (λ list. Renames around names (flat_map (items field) list) (flat_map (items field) (take (i + 1) (slice_set news i y))) rest) (sym read)
      (subst (λ list. Renames around names (flat_map (items field) (take i olds ++ x ∷ [])) (flat_map (items field) list) rest) (sym made)
      (joined around items front last field));
}

-- behind the last element all of the list is renamed; the list of a tree writes it in its own way
pub all_of_them : (around : Around) {A : Type 0} (items : ℕ → A → List Item) (rows : ℕ → Vec A Global → List Item) → ((field : ℕ) (list : Vec A Global) → rows field list ≡ flat_map (items field) list.items) → {names rest : List Naming} {old new : Vec A Global} {i : ℕ} → length old.items ≤ i → Unvisited i old.items new.items → Renamed around (each items) names (take i old.items) (take i new.items) rest → Renamed around rows names old new rest
all_of_them around items rows same {names = names} {rest = rest} {old = old} {new = new} {i = i} over same_on all = record {
  in_field = λ field.
      subst (λ them. Renames around names them (rows field new) rest) (sym (same field old))
      (subst (λ them. Renames around names (flat_map (items field) old.items) them rest) (sym (same field new))
      (subst (λ them. Renames around names (flat_map (items field) them) (flat_map (items field) new.items) rest) (take_all i old.items over)
      (subst (λ them. Renames around names (flat_map (items field) (take i old.items)) (flat_map (items field) them) rest) (take_all i new.items (subst (λ n. n ≤ i) (sym same_on.0) over))
      (all.in_field field))));
}

-- an identifier that got a name, wherever it is just a name
pub named : {names rest : List Naming} {old new : v_ident.Ident} → Takes names old new rest → (role : Role) → is_occurrence role ≡ true → Renamed Anywhere (ident_items role) names old new rest
named {names = names} {rest = rest} {old = old} {new = new} taken role occurs = record {
  in_field = λ field.
      subst (λ left. Renames Anywhere names (ident_items role field old) (ident_items role field new) left) (sym taken.rest_is)
      (subst (λ made. Renames Anywhere names (ident_items role field old) made (drop 1 names)) (sym (taken.renamed_is field role))
      (Name Anywhere field (string_bytes old.sym) old.ctxt role occurs));
}
