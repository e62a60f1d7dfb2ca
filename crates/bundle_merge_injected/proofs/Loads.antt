-- The statement that loads a CommonJS module, as it is written, by whether names are taken.
use Rattle.std.proofs.Common.{◌≡◌, ◌==◌, true, false, List, [], ◌∷◌, ◌++◌, append_assoc, Some, None, length, map, refl, sym, arith, eqb-true}
use Rattle.std.proofs.lemmas.Bool.{false≢true}
use Rattle.std.specs.List.{flat_map}
use Rattle.bundle_syntax.specs.declared.kind.VarDeclKind.TheVariants.{Var}
use Rattle.bundle_syntax.specs.declared.piece.Role.TheVariants.{Binding, Reference}
use Rattle.bundle_syntax.specs.Item as h
use Rattle.bundle_syntax.specs.Item.{Item}
use Rattle.bundle_tree_listed.specs.Tree.{node}
use Rattle.bundle_rules.specs.Statements.{no_notes}
use Rattle.bundle_rules.specs.Idents.{Ident}
use Rattle.bundle_merge_injected.specs.declared.name.Pair.{Pair}
use Rattle.bundle_merge_injected.specs.Listed.{declarator, load_call, load_pattern, load_property, load_statement, named, pair_of, pattern_of}

pub loads_nothing : (load : Ident) (names : List Pair) → (length names == 0) ≡ true → node 0 h.ExprStmt (load_call 0 load) ≡ load_statement load None (map pair_of names)
loads_nothing load [] none = refl
loads_nothing load (pair ∷ more) none = absurd (omega (arith, eqb-true (length (pair ∷ more)) 0 none))

names_written : (load : Ident) (properties : List Item) → ((h.Open 0 (h.VarDecl Var no_notes) ∷ h.Open 1 h.VarDeclarator ∷ []) ++ node 0 h.ObjectPat properties) ++ h.Open 1 h.CallExpr ∷ h.Ident 0 load.0 load.1 Reference ∷ h.Close ∷ h.Close ∷ h.Close ∷ [] ≡ node 0 (h.VarDecl Var no_notes) (declarator (node 0 h.ObjectPat properties) (load_call 1 load))
names_written load properties = simp append_assoc

pub loads_names : (load : Ident) (names : List Pair) → (length names == 0) ≡ false → ((h.Open 0 (h.VarDecl Var no_notes) ∷ h.Open 1 h.VarDeclarator ∷ []) ++ load_pattern (map pair_of names)) ++ h.Open 1 h.CallExpr ∷ h.Ident 0 load.0 load.1 Reference ∷ h.Close ∷ h.Close ∷ h.Close ∷ [] ≡ load_statement load None (map pair_of names)
loads_names load [] some = absurd (false≢true (sym some))
loads_names load (pair ∷ more) some = names_written load (flat_map load_property (map pair_of (pair ∷ more)))

pub loads_whole : (load whole : Ident) (names : List Pair) → (length names == 0) ≡ true → node 0 (h.VarDecl Var no_notes) (declarator (pattern_of 0 Binding whole) (load_call 1 load)) ≡ load_statement load (Some whole) (map pair_of names)
loads_whole load whole [] none = refl
loads_whole load whole (pair ∷ more) none = absurd (omega (arith, eqb-true (length (pair ∷ more)) 0 none))

both_written : (load whole : Ident) (properties : List Item) → ((h.Open 0 (h.VarDecl Var no_notes) ∷ (declarator (pattern_of 0 Binding whole) (load_call 1 load) ++ h.Open 1 h.VarDeclarator ∷ [])) ++ node 0 h.ObjectPat properties) ++ h.Ident 1 whole.0 whole.1 Reference ∷ h.Close ∷ h.Close ∷ [] ≡ node 0 (h.VarDecl Var no_notes) (declarator (pattern_of 0 Binding whole) (load_call 1 load) ++ declarator (node 0 h.ObjectPat properties) (named 1 Reference whole))
both_written load whole properties = simp append_assoc

pub loads_both : (load whole : Ident) (names : List Pair) → (length names == 0) ≡ false → ((h.Open 0 (h.VarDecl Var no_notes) ∷ (declarator (pattern_of 0 Binding whole) (load_call 1 load) ++ h.Open 1 h.VarDeclarator ∷ [])) ++ load_pattern (map pair_of names)) ++ h.Ident 1 whole.0 whole.1 Reference ∷ h.Close ∷ h.Close ∷ [] ≡ load_statement load (Some whole) (map pair_of names)
loads_both load whole [] some = absurd (false≢true (sym some))
loads_both load whole (pair ∷ more) some = both_written load whole (flat_map load_property (map pair_of (pair ∷ more)))
