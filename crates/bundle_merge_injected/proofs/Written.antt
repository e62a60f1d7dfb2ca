-- What is written by several calls, one behind the other.
use Rattle.std.proofs.Common.{◌≡◌, ◌∙◌, ℕ, ◌+◌, ◌<◌, ◌≤◌, ap, sym, List, ◌++◌, append_assoc, append-nil, false, [], ◌∷◌, get_or, length, map, take}
use Rattle.std.specs.List.{flat_map}
use Rattle.std.proofs.lemmas.Grind.{flat_map-append}
use Rattle.std.proofs.lemmas.List.{map-append, take_all, take_more}
use Rattle.bundle_syntax.specs.declared.kind.ExportMetadata.{ExportMetadata}
use Rattle.bundle_syntax.specs.declared.kind.VarDeclKind.TheVariants.{Const}
use Rattle.bundle_syntax.specs.declared.piece.Role.TheVariants.{Binding}
use Rattle.bundle_syntax.specs.Item as h
use Rattle.bundle_syntax.specs.Item.{Item}
use Rattle.bundle_rules.specs.Nodes.{Text}
use Rattle.bundle_rules.specs.Idents.{Ident}
use Rattle.bundle_rules.specs.Forms.{returned_object}
use Rattle.bundle_merge_injected.specs.declared.name.Pair.{Pair}
use Rattle.bundle_merge_injected.specs.Listed.{namespace_object, pair_of, pattern_of}

pub behind : (a b e x y : List Item) → b ≡ a ++ x → e ≡ b ++ y → e ≡ a ++ (x ++ y)
behind a b e x y first second = second ∙ ap (λ list. list ++ y) first ∙ append_assoc a x y

-- one form more behind those of the first pairs
pub one_more : (f : Text × Ident → List Item) (start old new : List Item) (list : List Pair) (i : ℕ) (d : Pair) → i < length list → old ≡ start ++ flat_map f (map pair_of (take i list)) → new ≡ old ++ f (pair_of (get_or list i d)) → new ≡ start ++ flat_map f (map pair_of (take (i + 1) list))
one_more f start old new list i d within before is =
    let pair : Text × Ident = pair_of (get_or list i d) in
    let first : List (Text × Ident) = map pair_of (take i list) in
    let more : flat_map f (map pair_of (take (i + 1) list)) ≡ flat_map f first ++ f pair =
    ap (λ pairs. flat_map f (map pair_of pairs)) (take_more list i d within)
    ∙ ap (flat_map f) (map-append pair_of (take i list) (get_or list i d ∷ []))
    ∙ flat_map-append f first (pair ∷ [])
    ∙ ap (λ last. flat_map f first ++ last) (append-nil (f pair)) in
    is ∙ ap (λ front. front ++ f pair) before ∙ append_assoc start (flat_map f first) (f pair) ∙ ap (λ forms. start ++ forms) (sym more)

-- the forms of all pairs
pub all_of : (f : Text × Ident → List Item) (start old : List Item) (list : List Pair) (i : ℕ) → length list ≤ i → old ≡ start ++ flat_map f (map pair_of (take i list)) → old ≡ start ++ flat_map f (map pair_of list)
all_of f start old list i past is = is ∙ ap (λ pairs. start ++ flat_map f (map pair_of pairs)) (take_all i list past)

-- what is written first of all
pub alone : (a e form : List Item) → a ≡ [] → e ≡ a ++ form → e ≡ form
alone a e form none is = is ∙ ap (λ list. list ++ form) none

-- what is written, as a form
pub written : (a e x form : List Item) → e ≡ a ++ x → x ≡ form → e ≡ a ++ form
written a e x form is same = is ∙ ap (λ list. a ++ list) same

-- the object of a namespace
pub object_written : (notes : ExportMetadata) (object : Ident) (pairs : List (Text × Ident)) → ((h.Open 0 (h.VarDecl Const notes) ∷ h.Open 1 h.VarDeclarator ∷ (pattern_of 0 Binding object ++ h.Open 1 h.CallExpr ∷ h.Open 0 h.FnExpr ∷ h.Open 1 (h.Function false false) ∷ h.Open 1 h.BlockStmt ∷ [])) ++ returned_object pairs) ++ h.Close ∷ h.Close ∷ h.Close ∷ h.Close ∷ h.Close ∷ h.Close ∷ [] ≡ namespace_object notes object pairs
object_written notes object pairs = simp append_assoc
