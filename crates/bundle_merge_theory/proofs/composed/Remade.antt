-- The items of a bundle with other identifiers: each is told what it was told before.
use Rattle.std.proofs.Common.{◌≡◌, false, List, [], ◌∷◌, ◌++◌, append_assoc, append-nil, refl, ap, sym, ◌∙◌, subst}
use Rattle.std.specs.Prelude.{⊤}
use Rattle.std.specs.List.{AllZip}
use Rattle.std.proofs.lemmas.Bool.{true≢false}
use Rattle.bundle_syntax.specs.declared.kind.ExportMetadata.{ExportMetadata}
use Rattle.bundle_syntax.specs.declared.kind.VarDeclKind.TheVariants.{Var}
use Rattle.bundle_syntax.specs.declared.piece.Role.TheVariants.{Binding, Reference}
use Rattle.bundle_syntax.specs.Item as h
use Rattle.bundle_syntax.specs.Item.{Item}
use Rattle.bundle_rules.specs.Idents.{Ident}
use Rattle.bundle_rules.specs.Rebuilds.{Change, rebuilt}
use Rattle.bundle_rules.specs.Sorting.{flat}
use Rattle.bundle_rules.specs.Meaning.{Label}
use Rattle.bundle_tree_places.specs.Edits as c
use Rattle.bundle_tree_places.specs.Edits.{Anywhere, Edits}
use Rattle.bundle_tree_places.proofs.EditsLemmas.{rebuilt_so}
use Rattle.bundle_merge_theory.specs.joined.Joined.{joined_items, AllOf}
use Rattle.bundle_merge_theory.specs.walked.Names.{idents_among}
use Rattle.bundle_merge_theory.specs.walked.Renaming.{KeepsText, ItemMeaning, HasMarks, HasNoLoneName}
use Rattle.bundle_merge_theory.proofs.walked.NameLemmas.{names_of-append}
use Rattle.bundle_merge_theory.proofs.walked.Renaming.{renamed_marks, alone_alone}
use Rattle.bundle_merge_theory.proofs.walked.Clearing.{noted}
use Rattle.bundle_merge_theory.specs.composed.Noted.{NotedItem, AsWhole, AsFunction, function_ends}
use Rattle.bundle_merge_theory.specs.composed.Functions.{load_function_front, load_function_items, function_names, IsOfForm, whole_form, function_form}
use Rattle.bundle_merge_theory.proofs.composed.Lone.{lone-edited}
use Rattle.bundle_merge_theory.proofs.composed.Fronts.{blanks, skeleton, front-blank, function-parts}
pub use Rattle.bundle_merge_theory.specs.composed.Single.{NoLone}

-- an item of which the same is told
pub data Remade : NotedItem → List Item → NotedItem → Type 0 where
  remade_whole : {item : List Item} {told : ItemMeaning} → HasMarks item told →
      Remade (AsWhole told) item (AsWhole told)
  remade_function : {item old front : List Item} {names : List Label}
      {olds insides : List (List Item)} {tolds : List ItemMeaning} →
      item ≡ front ++ (flat insides ++ function_ends) → blanks front ≡ skeleton →
      AllZip HasMarks insides tolds →
      Remade (AsFunction old names olds tolds) item (AsFunction front names insides tolds)

-- With changes.

-- changes of two parts
record Two (its : List Change) (first second : List Ident) : Type 0 where
  front : List Change
  back : List Change
  is : its ≡ front ++ back
  one : AllZip KeepsText front first
  two : AllZip KeepsText back second

two_of : (its : List Change) (first second : List Ident) → AllZip KeepsText its (first ++ second) →
    Two its first second
two_of its [] second all = record { front = []; back = its; is = refl; one = tt; two = all }
two_of [] (x ∷ first) second all = absurd all
two_of (change ∷ its) (x ∷ first) second all =
    let rest = two_of its first second all.1 in
    record {
      front = change ∷ rest.front;
      back = rest.back;
      is = ap (λ l. change ∷ l) rest.is;
      one = (all.0, rest.one);
      two = rest.two;
    }

-- a part
record PartMade (part : List Item) (told : ItemMeaning) (its left : List Change) : Type 0 where
  made : List Item
  marked : HasMarks made told
  lone : HasNoLoneName made
  edits : Edits Anywhere (its ++ left) part made left

part_made : (part : List Item) (told : ItemMeaning) (its left : List Change) → HasMarks part told →
    HasNoLoneName part → AllZip KeepsText its (idents_among part) → PartMade part told its left
part_made part told its left marked lone cover =
    let one =
    renamed_marks marked (alone_alone told.0) its left cover [] false []
    (subst HasNoLoneName (sym (append-nil part)) lone) (λ is. absurd (true≢false is)) in
    record {
      made = one.after;
      marked = one.marked;
      lone = lone-edited one.edits lone;
      edits = one.edits;
    }

record PartsMade (parts : List (List Item)) (tolds : List ItemMeaning) (its left : List Change) : Type
    0 where
  made : List (List Item)
  marked : AllZip HasMarks made tolds
  lone : AllOf HasNoLoneName made
  edits : Edits Anywhere (its ++ left) (flat parts) (flat made) left

parts_made : (parts : List (List Item)) (tolds : List ItemMeaning) (its left : List Change) →
    AllZip HasMarks parts tolds → AllOf HasNoLoneName parts →
    AllZip KeepsText its (idents_among (flat parts)) → PartsMade parts tolds its left
parts_made [] [] [] left marked lone cover = record {
  made = [];
  marked = tt;
  lone = tt;
  edits = c.Nothing;
}
parts_made [] [] (change ∷ its) left marked lone cover = absurd cover
parts_made [] (told ∷ tolds) its left marked lone cover = absurd marked
parts_made (part ∷ parts) [] its left marked lone cover = absurd marked
parts_made (part ∷ parts) (told ∷ tolds) its left marked lone cover =
    let both =
    two_of its (idents_among part) (idents_among (flat parts))
    (subst (AllZip KeepsText its) (names_of-append part (flat parts)) cover) in
    let one = part_made part told both.front (both.back ++ left) marked.0 lone.0 both.one in
    let rest = parts_made parts tolds both.back left marked.1 lone.1 both.two in
    record {
      made = one.made ∷ rest.made;
      marked = (one.marked, rest.marked);
      lone = (one.lone, rest.lone);
      edits =
          subst (λ l. Edits Anywhere l (part ++ flat parts) (one.made ++ flat rest.made) left)
          (sym (append_assoc both.front both.back left) ∙ ap (λ l. l ++ left) (sym both.is))
          (c.Joined one.edits rest.edits);
    }

-- an item
record ItemMade (item : List Item) (one : NotedItem) (its left : List Change) : Type 0 where
  made : List Item
  other : NotedItem
  remade : Remade one made other
  form : IsOfForm made other
  lone : NoLone made other
  edits : Edits Anywhere (its ++ left) item made left

function-edits : (meta : ExportMetadata) (load helper own its : Ident) (a b d e : Change)
    (changes left : List Change) (body made : List Item) →
    Edits Anywhere changes body made left →
    Edits Anywhere (a ∷ b ∷ d ∷ e ∷ changes) (load_function_items meta load helper own its body)
    (load_function_items meta a.ident b.ident d.ident e.ident made) left
function-edits meta load helper own its a b d e changes left body made edits =
    c.Inside 0 (h.VarDecl Var meta) refl (c.Inside 1 h.VarDeclarator refl (c.Joined (c.Inside 0 h.BindingIdent refl (c.Name Anywhere 0 load.0 load.1 Binding refl))
    (c.Inside 1 h.CallExpr refl (c.Joined (c.Name Anywhere 0 helper.0 helper.1 Reference refl) (c.Inside 1 (h.ExprOrSpread false) refl (c.Inside 1 h.FnExpr refl (c.Inside 1 (h.Function false false) refl
    (c.Joined (c.Inside 0 h.Param refl (c.Inside 0 h.BindingIdent refl (c.Name Anywhere 0 own.0 own.1 Binding refl)))
    (c.Joined (c.Inside 0 h.Param refl (c.Inside 0 h.BindingIdent refl (c.Name Anywhere 0 its.0 its.1 Binding refl)))
    (c.Inside 1 h.BlockStmt refl edits))))))))))

function-names : (meta : ExportMetadata) (load helper own its : Ident) (body : List Item) →
    idents_among (load_function_items meta load helper own its body) ≡ load ∷ helper ∷ own ∷ its ∷ idents_among
    body
function-names meta load helper own its body =
    ap idents_among (function-parts meta load helper own its body)
    ∙ ap (λ l. load ∷ helper ∷ own ∷ its ∷ l)
    (names_of-append body function_ends ∙ append-nil (idents_among body))

item_made : (item : List Item) (one : NotedItem) (its left : List Change) → IsOfForm item one →
    NoLone item one → AllZip KeepsText its (idents_among item) → ItemMade item one its left
item_made item (AsWhole told) its left (whole_form marked) lone cover =
    let it = part_made item told its left marked lone cover in
    record {
      made = it.made;
      other = AsWhole told;
      remade = remade_whole it.marked;
      form = whole_form it.marked;
      lone = it.lone;
      edits = it.edits;
    }
item_made _ _ its left (function_form {c = k} {insides = insides} {tolds = tolds} meta load helper own exports marked) lone cover = by_changes its (subst (AllZip KeepsText its) (function-names meta load helper own exports (flat insides)) cover)
  where
    by_changes : (its : List Change) →
        AllZip KeepsText its (load ∷ helper ∷ own ∷ exports ∷ idents_among (flat insides)) →
        ItemMade (load_function_items meta load helper own exports (flat insides))
        (AsFunction (load_function_front meta load helper own exports) (function_names k) insides
        tolds) its left
    by_changes [] cover = absurd cover
    by_changes (a ∷ []) cover = absurd cover.1
    by_changes (a ∷ b ∷ []) cover = absurd cover.1.1
    by_changes (a ∷ b ∷ d ∷ []) cover = absurd cover.1.1.1
    by_changes (a ∷ b ∷ d ∷ e ∷ changes) cover =
        let it = parts_made insides tolds changes left marked lone cover.1.1.1.1 in
        record {
          made = load_function_items meta a.ident b.ident d.ident e.ident (flat it.made);
          other =
              AsFunction (load_function_front meta a.ident b.ident d.ident e.ident) (function_names k)
              it.made tolds;
          remade =
              remade_function (function-parts meta a.ident b.ident d.ident e.ident (flat it.made))
              (front-blank meta a.ident b.ident d.ident e.ident) it.marked;
          form = function_form meta a.ident b.ident d.ident e.ident it.marked;
          lone = it.lone;
          edits =
              function-edits meta load helper own exports a b d e (changes ++ left) left
              (flat insides) (flat it.made) it.edits;
        }

-- all items
abbrev pub AllOfForm : List (List Item) → List NotedItem → Type 0
AllOfForm items noted = AllZip IsOfForm items noted

abbrev pub AllRemade : List NotedItem → List (List Item) → List NotedItem → Type 0
AllRemade [] [] [] = ⊤
AllRemade (one ∷ noted) (item ∷ items) (other ∷ its) =
    Remade one item other × AllRemade noted items its
AllRemade _ _ _ = ⊥

-- an item becomes this by some changes
pub record IsEdited (item made : List Item) : Type 0 where
  pub its : List Change
  pub left : List Change
  pub edits : Edits Anywhere its item made left

record ItemsMade (items : List (List Item)) (noted : List NotedItem) (its : List Change) : Type 0 where
  made : List (List Item)
  others : List NotedItem
  remade : AllRemade noted made others
  forms : AllOfForm made others
  lones : AllZip NoLone made others
  each : AllZip IsEdited items made
  edits : Edits Anywhere its (flat items) (flat made) []

items_made : (items : List (List Item)) (noted : List NotedItem) (its : List Change) →
    AllOfForm items noted → AllZip NoLone items noted →
    AllZip KeepsText its (idents_among (flat items)) → ItemsMade items noted its
items_made [] [] [] forms lone cover = record {
  made = [];
  others = [];
  remade = tt;
  forms = tt;
  lones = tt;
  each = tt;
  edits = c.Nothing;
}
items_made [] [] (change ∷ its) forms lone cover = absurd cover
items_made [] (one ∷ noted) its forms lone cover = absurd forms
items_made (item ∷ items) [] its forms lone cover = absurd forms
items_made (item ∷ items) (one ∷ noted) its forms lone cover =
    let both =
    two_of its (idents_among item) (idents_among (flat items))
    (subst (AllZip KeepsText its) (names_of-append item (flat items)) cover) in
    let first = item_made item one both.front both.back forms.0 lone.0 both.one in
    let rest = items_made items noted both.back forms.1 lone.1 both.two in
    record {
      made = first.made ∷ rest.made;
      others = first.other ∷ rest.others;
      remade = (first.remade, rest.remade);
      forms = (first.form, rest.forms);
      lones = (first.lone, rest.lones);
      each = (
        record { its = both.front ++ both.back; left = both.back; edits = first.edits },
        rest.each,
      );
      edits =
          subst (λ l. Edits Anywhere l (item ++ flat items) (first.made ++ flat rest.made) [])
          (sym both.is) (c.Joined first.edits rest.edits);
    }

-- the module with these changes is of items of which the same is told
pub record Renewed (items : List (List Item)) (noted : List NotedItem) (its : List Change) : Type
    0 where
  pub made : List (List Item)
  pub others : List NotedItem
  pub remade : AllRemade noted made others
  pub forms : AllOfForm made others
  pub lones : AllZip NoLone made others
  pub each : AllZip IsEdited items made
  pub edits : Edits Anywhere its (flat items) (flat made) []
  pub is : rebuilt (joined_items items) its ≡ joined_items made

pub renewed : (items : List (List Item)) (noted : List NotedItem) (its : List Change) →
    AllOfForm items noted → AllZip NoLone items noted →
    AllZip KeepsText its (idents_among (flat items)) → Renewed items noted its
renewed items noted its forms lone cover =
    let all = items_made items noted its forms lone cover in
    record {
      made = all.made;
      others = all.others;
      remade = all.remade;
      forms = all.forms;
      lones = all.lones;
      each = all.each;
      edits = all.edits;
      is = sym (rebuilt_so (record { rest = []; by = c.Inside 0 h.Module refl all.edits }));
    }
