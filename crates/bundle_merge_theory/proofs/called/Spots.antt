-- What a meaning begins with.
-- Elements of a list one after the other, with the spots where they stand, and what they mean.
use Rattle.std.proofs.Common.{◌≡◌, ℕ, Bool, true, false, ◌&&◌, List, [], ◌∷◌, ◌++◌, bytes_eq, refl, sym, ◌∙◌, codes, zero, suc, ◌+◌, Option, Some, None, option_map, length, take, drop, ap, ap₂, subst, arith}
use Rattle.std.specs.Prelude.{if◌then◌else◌, ◌==◌, fold}
use Rattle.std.proofs.lemmas.Bool.{false≢true}
use Rattle.std.proofs.lemmas.Option.{none-some}
use Rattle.std.proofs.lemmas.List.Sums.{fold-append}
use Rattle.bundle_syntax.specs.Item as h
use Rattle.bundle_syntax.specs.Item.{Item, Head}
use Rattle.bundle_syntax.specs.declared.piece.Role.{Role}
use Rattle.bundle_syntax.specs.declared.piece.Role.TheVariants as r
use Rattle.bundle_rules.specs.Places.{Around, path_at, Spot, past, start, spot_before, path_to, path_to_option, occurrence_of, occurrence_at}
use Rattle.bundle_rules.specs.Declarations.{Reading, declared}
use Rattle.bundle_rules.specs.Denotes.{Denoted, denoted_of, denoted_at}
use Rattle.bundle_rules.specs.Nodes.{Text, begins_with}
use Rattle.bundle_rules.specs.Cleared.{cleared_head}
use Rattle.bundle_rules.specs.Statements.{Element, taken, written, taken_from}
use Rattle.bundle_rules.specs.Meaning as m
use Rattle.bundle_rules.specs.Meaning.{Meant, Mark, Sense, Means, Labelling, bundle_sense, Replacement, ByName, ByCall, replacement_marks, NameMeans}
use Rattle.bundle_rules.specs.Marks.{Begins, Ends, Name, word_key, computed_key, begin_marks, end_marks, name_marks, Word}
use Rattle.bundle_rules.specs.Shorthands.{has_default, is_shorthand_in_pattern, is_object}
use Rattle.bundle_rules.specs.Forms.{is_export_list}
use Rattle.bundle_rules.specs.Callable.{begins_list, module_with}
use Rattle.bundle_rules.specs.Scopes.{Es}
use Rattle.bundle_link.proofs.NodePaths.{drop-next}
use Rattle.bundle_merge_theory.specs.called.Called.{call_with, statements_start, call_start}
use Rattle.bundle_merge_theory.proofs.called.MarksMoved.{other-head}
use Rattle.bundle_merge_theory.proofs.called.Sides.{get-there}

-- ---- firsts

-- whether marks begin with a list of exports
abbrev pub first_is_list : List Mark → Bool
first_is_list (Begins field head ∷ rest) = is_export_list head
first_is_list _ = false

list-cleared : (head : Head) → is_export_list (cleared_head head) ≡ is_export_list head
list-cleared (h.ImportDecl meta) = refl
list-cleared (h.NamedExport meta) = refl
list-cleared (h.ExportAll meta) = refl
list-cleared (h.VarDecl kind meta) = refl
list-cleared _ = refl

first-begins : (tree : List Item) (place field : ℕ) (path : List Around) (head : Head)
    (rest : List Mark) →
    first_is_list (begin_marks {N = Meant} tree place field path head ++ rest) ≡ is_export_list head
first-begins tree place field path h.AssignPatProp rest = refl
first-begins tree place field [] head rest = list-cleared head
first-begins tree place field (node ∷ outer) head rest = list-cleared head

first-ends : (tree : List Item) (path : List Around) (rest : List Mark) →
    first_is_list (end_marks {N = Meant} tree path ++ rest) ≡ false
first-ends tree [] rest = refl
first-ends tree (node ∷ outer) rest =
    by (is_shorthand_in_pattern node.head && has_default tree node.begins)
  where
    by : (t : Bool) → first_is_list ((if t then Ends ∷ Ends ∷ [] else Ends ∷ []) ++ rest) ≡ false
    by true = refl
    by false = refl

first-name : (field : ℕ) (path : List Around) (x : Text) (meant : Meant) (rest : List Mark) →
    first_is_list (name_marks field path x meant ++ rest) ≡ false
first-name field [] x meant rest = refl
first-name field (node ∷ outer) x meant rest = by (is_object node.head)
  where
    by : (t : Bool) →
        first_is_list
        ((if t then Begins field h.KeyValueProp ∷ ((if bytes_eq x (codes "__proto__") then computed_key x else word_key x) ++ Name 1 meant ∷ Ends ∷ []) else Name field meant ∷ []) ++ rest)
        ≡
        false
    by true = refl
    by false = refl

first-replaced : (field : ℕ) (by : Replacement) (rest : List Mark) →
    first_is_list (replacement_marks field by ++ rest) ≡ false
first-replaced field (ByName l) rest = refl
first-replaced field (ByCall l) rest = refl

-- where a meaning begins with a list of exports, the elements do
pub list-meant : {sense : Sense} {inner : List Denoted} {es : List Element} {marks : List Mark} →
    Means sense inner es marks → first_is_list marks ≡ true → begins_list es ≡ true
list-meant m.finished e = e
list-meant (m.replaced {field} {marks} by is rest) e =
    absurd (false≢true (sym (first-replaced field by marks) ∙ e))
list-meant {sense} (m.begun {place} {field} {head} {marks} is rest) e =
    sym (first-begins sense.view.tree place field (path_at sense.view.tree place) head marks) ∙ e
list-meant {sense} (m.ended {place} {marks} rest) e =
    absurd (false≢true (sym (first-ends sense.view.tree (path_at sense.view.tree place) marks) ∙ e))
list-meant (m.empty rest) e = absurd (false≢true e)
list-meant {sense} (m.named {place} {field} {sym = x} {marks} d meant is means rest) e =
    absurd (false≢true (sym (first-name field (path_at sense.view.tree place) x meant marks) ∙ e))
list-meant (m.word rest) e = absurd (false≢true e)
list-meant (m.adds_begin {head} rest) e = sym (list-cleared head) ∙ e
list-meant (m.adds_end rest) e = absurd (false≢true e)
list-meant (m.adds_name meant means rest) e = absurd (false≢true e)

-- and in a bundle the other way round
pub list-means : (tree : List Item) (reading : Reading) (labels : Labelling) {inner : List Denoted}
    {es : List Element} {marks : List Mark} →
    Means (bundle_sense tree reading labels) inner es marks → begins_list es ≡ true →
    first_is_list marks ≡ true
list-means tree reading labels m.finished e = e
list-means tree reading labels (m.replaced by is rest) e = absurd is
list-means tree reading labels (m.begun {place} {field} {head} {marks} is rest) e =
    first-begins tree place field (path_at tree place) head marks ∙ e
list-means tree reading labels (m.ended rest) e = absurd (false≢true e)
list-means tree reading labels (m.empty rest) e = absurd (false≢true e)
list-means tree reading labels (m.named d meant is means rest) e = absurd (false≢true e)
list-means tree reading labels (m.word rest) e = absurd (false≢true e)
list-means tree reading labels (m.adds_begin {head} rest) e = list-cleared head ∙ e
list-means tree reading labels (m.adds_end rest) e = absurd (false≢true e)
list-means tree reading labels (m.adds_name meant means rest) e = absurd (false≢true e)

-- elements of an item
pub begins-item : (start : ℕ) (items : List Item) →
    begins_list (taken_from start items) ≡ begins_with is_export_list items
begins-item start [] = refl
begins-item start (h.Open field head ∷ rest) = refl
begins-item start (h.Ident field x ctxt role ∷ rest) = refl
begins-item start (h.Hole field ∷ rest) = refl
begins-item start (h.Close ∷ rest) = refl

-- nothing means nothing
pub nothing-meant : {sense : Sense} {inner : List Denoted} {es : List Element} {marks : List Mark} →
    Means sense inner es marks → es ≡ [] → marks ≡ []
nothing-meant m.finished e = refl
nothing-meant (m.replaced by is rest) e = absurd cc
nothing-meant (m.begun is rest) e = absurd cc
nothing-meant (m.ended rest) e = absurd cc
nothing-meant (m.empty rest) e = absurd cc
nothing-meant (m.named d meant is means rest) e = absurd cc
nothing-meant (m.word rest) e = absurd cc
nothing-meant (m.adds_begin rest) e = absurd cc
nothing-meant (m.adds_end rest) e = absurd cc
nothing-meant (m.adds_name meant means rest) e = absurd cc

pub front-begins : (front rest : List Element) → (front ≡ [] → ⊥) →
    begins_list (front ++ rest) ≡ true → begins_list front ≡ true
front-begins [] rest some e = absurd (some refl)
front-begins (taken place (h.Open field head) ∷ front) rest some e = e
front-begins (taken place (h.Ident field x ctxt role) ∷ front) rest some e = e
front-begins (taken place (h.Hole field) ∷ front) rest some e = e
front-begins (taken place h.Close ∷ front) rest some e = e
front-begins (written (h.Open field head) ∷ front) rest some e = e
front-begins (written (h.Ident field x ctxt role) ∷ front) rest some e = e
front-begins (written (h.Hole field) ∷ front) rest some e = e
front-begins (written h.Close ∷ front) rest some e = e

-- ---- spots

-- what is left of a list from a place on, and the spot there
pub record IsAt (list : List Item) (j : ℕ) (s : Spot) (items : List Item) : Type 0 where
  pub left : drop j list ≡ items
  pub spot : spot_before list j ≡ s

take-next : {A : Type 0} (xs : List A) (b : ℕ) (x : A) (rest : List A) → drop b xs ≡ x ∷ rest →
    take (suc b) xs ≡ take b xs ++ x ∷ []
take-next [] zero x rest e = absurd cc
take-next [] (suc b) x rest e = absurd cc
take-next (y ∷ xs) zero x rest e = let is : y ≡ x = cc in ap (λ z. z ∷ []) is
take-next (y ∷ xs) (suc b) x rest e = ap (λ l. y ∷ l) (take-next xs b x rest e)

pub at-next : {list : List Item} {j : ℕ} {s : Spot} {x : Item} {rest : List Item} →
    IsAt list j s (x ∷ rest) → IsAt list (suc j) (past s x) rest
at-next {list} {j} {s} {x} {rest} at = record {
  left = drop-next list j x rest at.left;
  spot = ap (fold past start) (take-next list j x rest at.left) ∙ fold-append past start (take j list) (x ∷ []) ∙ ap (λ t. past t x) at.spot;
}

pub at-path : {list : List Item} {j : ℕ} {s : Spot} {x : Item} {rest : List Item} →
    IsAt list j s (x ∷ rest) → path_at list j ≡ path_to s.path x
at-path {list} {j} {s} {x} {rest} at =
    ap₂ (λ (t : Spot) (o : Option Item). path_to_option t.path o) at.spot
    (get-there list j x rest at.left)

pub at-occurrence : {list : List Item} {j : ℕ} {s : Spot} {x : Item} {rest : List Item} →
    IsAt list j s (x ∷ rest) → occurrence_at list j ≡ occurrence_of s x
at-occurrence {list} {j} {s} {x} {rest} at =
    ap₂
    (λ (t : Spot) (o : Option Item). Rattle.std.specs.Prelude.option_and_then (occurrence_of t) o)
    at.spot (get-there list j x rest at.left)

pub at-list : {list : List Item} {j : ℕ} {s : Spot} {items others : List Item} → items ≡ others →
    IsAt list j s items → IsAt list j s others
at-list e at = record { left = at.left ∙ e; spot = at.spot }

-- behind the statements
pub drop-past : {A : Type 0} (xs ys : List A) → drop (length xs) (xs ++ ys) ≡ ys
drop-past [] ys = refl
drop-past (x ∷ xs) ys = drop-past xs ys

take-whole : {A : Type 0} (xs ys : List A) → take (length xs) (xs ++ ys) ≡ xs
take-whole [] ys = refl
take-whole (x ∷ xs) ys = ap (λ l. x ∷ l) (take-whole xs ys)

pub module-behind : (stmts after : List Item) →
    IsAt (module_with stmts after) (suc (length stmts)) (fold past statements_start stmts) after
module-behind stmts after = record { left = drop-past stmts after; spot = ap (fold past statements_start) (take-whole stmts after) }

pub call-behind : (is_async : Bool) (stmts its : List Item) →
    IsAt (call_with is_async stmts its) (suc (length stmts) + 6)
    (fold past (call_start is_async) stmts) its
call-behind is_async stmts its =
    let n : suc (length stmts) + 6 ≡ suc (suc (suc (suc (suc (suc (suc (length stmts))))))) = omega arith in
    record {
      left = ap (λ k. drop k (call_with is_async stmts its)) n ∙ drop-past stmts its;
      spot = ap (spot_before (call_with is_async stmts its)) n ∙ ap (fold past (call_start is_async)) (take-whole stmts its);
    }

-- Marks of plain nodes.

begin-plain : (tree : List Item) (place field : ℕ) (path : List Around) (node : Around)
    (outer : List Around) →
    path ≡ node ∷ outer → is_shorthand_in_pattern node.head ≡ false → (head : Head) →
    is_shorthand_in_pattern head ≡ false →
    begin_marks {N = Meant} tree place field path head ≡ Begins field (cleared_head head) ∷ []
begin-plain tree place field path node outer e plain head own =
    ap (λ p. begin_marks {N = Meant} tree place field p head) e ∙ other-head {N = Meant} tree place field node outer head own ∙ ap (λ t. Begins (if t && (node.field == 0) then (if has_default tree node.begins then 0 else 1) else field) (cleared_head head) ∷ []) plain

end-plain : (tree : List Item) (path : List Around) (node : Around) (outer : List Around) →
    path ≡ node ∷ outer → is_shorthand_in_pattern node.head ≡ false →
    end_marks {N = Meant} tree path ≡ Ends ∷ []
end-plain tree path node outer e plain =
    ap (end_marks {N = Meant} tree) e
    ∙ ap (λ t. if t && has_default tree node.begins then Ends ∷ Ends ∷ [] else Ends ∷ []) plain

name-plain : (field : ℕ) (path : List Around) (node : Around) (outer : List Around) →
    path ≡ node ∷ outer → is_object node.head ≡ false → (x : Text) (meant : Meant) →
    name_marks field path x meant ≡ Name field meant ∷ []
name-plain field path node outer e plain x meant =
    ap (λ p. name_marks field p x meant) e ∙ ap
    (λ t. if t then Begins field h.KeyValueProp ∷ (Rattle.bundle_rules.specs.Marks.object_key x ++ Name 1 meant ∷ Ends ∷ []) else Name field meant ∷ [])
    plain

-- Meanings, from the front.

pub mean-open : (tree : List Item) (reading : Reading) (labels : Labelling) {inner : List Denoted}
    (j field : ℕ) (head : Head) (node : Around) (outer : List Around) →
    path_at tree j ≡ node ∷ outer → is_shorthand_in_pattern node.head ≡ false →
    is_shorthand_in_pattern head ≡ false → {es : List Element} {marks : List Mark} →
    Means (bundle_sense tree reading labels) inner es marks →
    Means (bundle_sense tree reading labels) inner (taken j (h.Open field head) ∷ es)
    (Begins field (cleared_head head) ∷ marks)
mean-open tree reading labels {inner} j field head node outer e plain own {es} {marks} rest =
    subst
    (λ front. Means (bundle_sense tree reading labels) inner (taken j (h.Open field head) ∷ es) (front ++ marks))
    (begin-plain tree j field (path_at tree j) node outer e plain head own)
    (m.begun (λ by none. none) rest)

pub mean-close : (tree : List Item) (reading : Reading) (labels : Labelling) {inner : List Denoted}
    (j : ℕ) (node : Around) (outer : List Around) →
    path_at tree j ≡ node ∷ outer → is_shorthand_in_pattern node.head ≡ false →
    {es : List Element} {marks : List Mark} →
    Means (bundle_sense tree reading labels) inner es marks →
    Means (bundle_sense tree reading labels) inner (taken j h.Close ∷ es) (Ends ∷ marks)
mean-close tree reading labels {inner} j node outer e plain {es} {marks} rest =
    subst
    (λ front. Means (bundle_sense tree reading labels) inner (taken j h.Close ∷ es) (front ++ marks))
    (end-plain tree (path_at tree j) node outer e plain) (m.ended rest)

pub mean-name : (tree : List Item) (reading : Reading) (labels : Labelling) {inner : List Denoted}
    (j field : ℕ) (x : Text) (ctxt : ℕ) (role : Role) (node : Around) (outer : List Around) →
    path_at tree j ≡ node ∷ outer → is_object node.head ≡ false → (d : Denoted) (meant : Meant) →
    denoted_at reading Es tree j ≡ Some d →
    NameMeans (bundle_sense tree reading labels) inner d meant →
    {es : List Element} {marks : List Mark} →
    Means (bundle_sense tree reading labels) inner es marks →
    Means (bundle_sense tree reading labels) inner (taken j (h.Ident field x ctxt role) ∷ es)
    (Name field meant ∷ marks)
mean-name tree reading labels {inner} j field x ctxt role node outer e plain d meant is means {es} {marks} rest = subst (λ front. Means (bundle_sense tree reading labels) inner (taken j (h.Ident field x ctxt role) ∷ es) (front ++ marks)) (name-plain field (path_at tree j) node outer e plain x meant) (m.named d meant is means rest)

-- Meanings, taken apart.

-- the first mark, and what the rest means
pub record Taken (tree : List Item) (reading : Reading) (labels : Labelling) (inner : List Denoted) (es : List Element) (mark : Mark) (marks : List Mark) : Type 0 where
  pub others : List Mark
  pub is : marks ≡ mark ∷ others
  pub means : Means (bundle_sense tree reading labels) inner es others

pub un-open : (tree : List Item) (reading : Reading) (labels : Labelling) {inner : List Denoted}
    (j field : ℕ) (head : Head) (node : Around) (outer : List Around) →
    path_at tree j ≡ node ∷ outer → is_shorthand_in_pattern node.head ≡ false →
    is_shorthand_in_pattern head ≡ false → {es : List Element} {marks : List Mark} →
    Means (bundle_sense tree reading labels) inner (taken j (h.Open field head) ∷ es) marks →
    Taken tree reading labels inner es (Begins field (cleared_head head)) marks
un-open tree reading labels j field head node outer e plain own (m.replaced by is rest) = absurd is
un-open tree reading labels j field head node outer e plain own (m.begun {marks} is rest) = record { others = marks; is = ap (λ l. l ++ marks) (begin-plain tree j field (path_at tree j) node outer e plain head own); means = rest }

pub un-close : (tree : List Item) (reading : Reading) (labels : Labelling) {inner : List Denoted}
    (j : ℕ) (node : Around) (outer : List Around) →
    path_at tree j ≡ node ∷ outer → is_shorthand_in_pattern node.head ≡ false →
    {es : List Element} {marks : List Mark} →
    Means (bundle_sense tree reading labels) inner (taken j h.Close ∷ es) marks →
    Taken tree reading labels inner es Ends marks
un-close tree reading labels j node outer e plain (m.ended {marks} rest) = record { others = marks; is = ap (λ l. l ++ marks) (end-plain tree (path_at tree j) node outer e plain); means = rest }

pub record Named (tree : List Item) (reading : Reading) (labels : Labelling) (inner : List Denoted) (j field : ℕ) (es : List Element) (marks : List Mark) : Type 0 where
  pub d : Denoted
  pub meant : Meant
  pub denoted : denoted_at reading Es tree j ≡ Some d
  pub means_it : NameMeans (bundle_sense tree reading labels) inner d meant
  pub taken : Taken tree reading labels inner es (Name field meant) marks

pub un-name : (tree : List Item) (reading : Reading) (labels : Labelling) {inner : List Denoted}
    (j field : ℕ) (x : Text) (ctxt : ℕ) (node : Around) (outer : List Around) →
    path_at tree j ≡ node ∷ outer → is_object node.head ≡ false →
    {es : List Element} {marks : List Mark} →
    Means (bundle_sense tree reading labels) inner (taken j (h.Ident field x ctxt r.Reference) ∷ es)
    marks →
    Named tree reading labels inner j field es marks
un-name tree reading labels j field x ctxt node outer e plain (m.named {marks} d meant is means rest) = record {
  d = d;
  meant = meant;
  denoted = is;
  means_it = means;
  taken = record { others = marks; is = ap (λ l. l ++ marks) (name-plain field (path_at tree j) node outer e plain x meant); means = rest };
}

pub un-word : (tree : List Item) (reading : Reading) (labels : Labelling) {inner : List Denoted}
    (j field : ℕ) (x : Text) (ctxt : ℕ) →
    occurrence_at tree j ≡ None → {es : List Element} {marks : List Mark} →
    Means (bundle_sense tree reading labels) inner (taken j (h.Ident field x ctxt r.Word) ∷ es)
    marks →
    Taken tree reading labels inner es (Word field x) marks
un-word tree reading labels j field x ctxt none_there (m.named {marks} d meant is means rest) =
    absurd
    (none-some d (sym (ap (option_map (denoted_of reading Es (declared reading Es tree))) none_there) ∙ is))
un-word tree reading labels j field x ctxt none_there (m.word {marks} rest) = record { others = marks; is = refl; means = rest }

-- the marks that are there
pub meant-next : {tree : List Item} {reading : Reading} {labels : Labelling} {inner : List Denoted}
    {es : List Element} {mark first : Mark} {marks : List Mark} →
    Taken tree reading labels inner es mark (first ∷ marks) →
    (first ≡ mark) × Means (bundle_sense tree reading labels) inner es marks
meant-next {tree} {reading} {labels} {inner} {es} {mark} {first} {marks} t =
    let is : first ∷ marks ≡ mark ∷ t.others = t.is in
    let same : first ≡ mark = cc in
    let rest : t.others ≡ marks = cc in
    (same, subst (λ l. Means (bundle_sense tree reading labels) inner es l) rest t.means)
