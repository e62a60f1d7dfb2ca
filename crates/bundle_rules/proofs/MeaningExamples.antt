-- Examples of meanings.
use Rattle.std.proofs.Common.{◌≡◌, ℕ, zero, suc, true, false, List, [], ◌∷◌, ◌++◌, length, Some, None, refl, sym, ap, subst, ◌∙◌, arith, lit<, true≢false}
use Rattle.std.specs.Prelude.{◌==◌, Bool, codes, drop, if◌then◌else◌}
use Rattle.bundle_syntax.specs.Item as h
use Rattle.bundle_syntax.specs.Item.{Item}
use Rattle.bundle_syntax.specs.declared.kind.VarDeclKind.TheVariants.{Const}
use Rattle.bundle_syntax.specs.declared.operator.AssignOp.TheVariants.{Assign}
use Rattle.bundle_syntax.specs.declared.operator.UnaryOp.TheVariants.{Delete}
use Rattle.bundle_rules.specs.Scopes.{Es, Top, Inner, Parameters}
use Rattle.bundle_rules.specs.Declarations.{BySymbol, Name as SourceName}
use Rattle.bundle_rules.specs.Denotes.{Bound, Global, denoted_at}
use Rattle.bundle_rules.specs.Nodes.{Text, inside as inside_of, first_or_nothing, side_by_side}
use Rattle.bundle_rules.specs.Entries.{ImportEntry, import_of, Taken, Named, Whole}
use Rattle.bundle_rules.specs.Statements.{Element, taken_from}
use Rattle.bundle_rules.specs.Program.{Program, tree_of, calls_of, resolves, is_external}
use Rattle.bundle_rules.specs.Linking.{Target, Declared, Namespace, Linked, StandsFor, declared, imported, taken_whole, imports, Takes, of_module, of_external, of_common_js}
use Rattle.bundle_rules.specs.Meaning.{item_of, Labelling, StatementMeans, bundle_sense, inner_bindings, plain as plain_name, Begins, Ends, Name, Known, Unbound, Of, ByName, Replacement, finished, replaced, begun, ended, named, unbound, outside, OwnMeaning, ReadsAs, by_name, by_read, is_meta_at, Replaced, static_read, import_meta, require_call, is_es}
use Rattle.std.specs.Prelude.{slice_get}
use Rattle.bundle_rules.specs.Reads.{read_word, property_of}
use Rattle.bundle_syntax.specs.declared.piece.Role.TheVariants.{Reference}
use Rattle.bundle_rules.specs.Cleared.{cleared_item}
use Rattle.bundle_rules.specs.Rebuilds.{with_idents}
use Rattle.bundle_rules.specs.OwnForms.{IsUnreplaced, WithNames, over, replaced as is_replaced, stays, KeepsForm}
use Rattle.bundle_rules.proofs.Trees.{node, module_of, declares, imports_all, calls, runs, argument, binds, uses, word, member, number}
use Rattle.bundle_rules.proofs.LinkingExamples.{x, plain, es_plain, x_is_linked}

-- where no name and no read stands, nothing is read
no_read : (p : Program) (m place : ℕ) → denoted_at BySymbol Es (tree_of p m) place ≡ None → read_word (tree_of p m) place ≡ None → (t : Target) → ReadsAs p m place t → ⊥
no_read p m place no_name no_word t (by_name denotes stands) = cc
no_read p m place no_name no_word t (by_read word reads linked) = cc

-- what is no read, no `import.meta` and no call of `require` is not replaced
pub not_replaced : (p : Program) (m place : ℕ) → denoted_at BySymbol Es (tree_of p m) place ≡ None → read_word (tree_of p m) place ≡ None → is_meta_at (slice_get (tree_of p m) place) ≡ false → length (calls_of p m) ≡ 0 → (by : Replacement) → Replaced p m place by → ⊥
not_replaced p m place no_name no_word no_meta no_calls by (static_read {t = t} word reads) = no_read p m place no_name no_word t reads
not_replaced p m place no_name no_word no_meta no_calls by (import_meta is) = true≢false (sym is ∙ no_meta)
not_replaced p m place no_name no_word no_meta no_calls by (require_call call (k, h, e) at resolved) = grind arith

-- main: `import * as ns from './a'; use(ns.x, ..);` with a: `export const x = 1;`
abbrev main : List Item
main = imports_all (codes "ns") (codes "./a") ++ calls (codes "use") (member 1 (uses 0 (codes "ns")) x)

abbrev p : Program
p = plain main

-- `ns` stands for the namespace of a
ns_stands : StandsFor p 0 (codes "ns") (Namespace 1)
ns_stands = taken_whole _ refl (of_module (record { resolved = refl; es = es_plain main 1 }))

-- `ns.x` is a static read, and means the declaration of x
reads_x : ReadsAs p 0 12 (Declared 1 x)
reads_x = by_read refl (by_name refl ns_stands) (x_is_linked main)

-- so it is replaced; nothing else is, since there is no other read of a member, no `import.meta` and no call of `require`
x_is_replaced : Replaced p 0 12 (ByName (Of (Declared 1 x)))
x_is_replaced = static_read refl reads_x

no_word : (y : Text) → None ≡ Some y → ⊥
no_word y e = cc

beyond : (n : ℕ) (y : Text) (stays : Bool) → (if stays then None else property_of (first_or_nothing (side_by_side zero (drop n [])))) ≡ Some y → ⊥
beyond zero y true e = cc
beyond zero y false e = cc
beyond (suc n) y true e = cc
beyond (suc n) y false e = cc

read_at : (place : ℕ) (y : Text) → read_word (tree_of p 0) place ≡ Some y → place ≡ 12
read_at zero y e = absurd (no_word y e)
read_at (suc zero) y e = absurd (no_word y e)
read_at (suc (suc zero)) y e = absurd (no_word y e)
read_at (suc (suc (suc zero))) y e = absurd (no_word y e)
read_at (suc (suc (suc (suc zero)))) y e = absurd (no_word y e)
read_at (suc (suc (suc (suc (suc zero))))) y e = absurd (no_word y e)
read_at (suc (suc (suc (suc (suc (suc zero)))))) y e = absurd (no_word y e)
read_at (suc (suc (suc (suc (suc (suc (suc zero))))))) y e = absurd (no_word y e)
read_at (suc (suc (suc (suc (suc (suc (suc (suc zero)))))))) y e = absurd (no_word y e)
read_at (suc (suc (suc (suc (suc (suc (suc (suc (suc zero))))))))) y e = absurd (no_word y e)
read_at (suc (suc (suc (suc (suc (suc (suc (suc (suc (suc zero)))))))))) y e = absurd (no_word y e)
read_at (suc (suc (suc (suc (suc (suc (suc (suc (suc (suc (suc zero))))))))))) y e = absurd (no_word y e)
read_at (suc (suc (suc (suc (suc (suc (suc (suc (suc (suc (suc (suc zero)))))))))))) y e = refl
read_at (suc (suc (suc (suc (suc (suc (suc (suc (suc (suc (suc (suc (suc zero))))))))))))) y e = absurd (no_word y e)
read_at (suc (suc (suc (suc (suc (suc (suc (suc (suc (suc (suc (suc (suc (suc zero)))))))))))))) y e = absurd (no_word y e)
read_at (suc (suc (suc (suc (suc (suc (suc (suc (suc (suc (suc (suc (suc (suc (suc zero))))))))))))))) y e = absurd (no_word y e)
read_at (suc (suc (suc (suc (suc (suc (suc (suc (suc (suc (suc (suc (suc (suc (suc (suc zero)))))))))))))))) y e = absurd (no_word y e)
read_at (suc (suc (suc (suc (suc (suc (suc (suc (suc (suc (suc (suc (suc (suc (suc (suc (suc zero))))))))))))))))) y e = absurd (no_word y e)
read_at (suc (suc (suc (suc (suc (suc (suc (suc (suc (suc (suc (suc (suc (suc (suc (suc (suc (suc zero)))))))))))))))))) y e = absurd (no_word y e)
read_at (suc (suc (suc (suc (suc (suc (suc (suc (suc (suc (suc (suc (suc (suc (suc (suc (suc (suc (suc zero))))))))))))))))))) y e = absurd (no_word y e)
read_at (suc (suc (suc (suc (suc (suc (suc (suc (suc (suc (suc (suc (suc (suc (suc (suc (suc (suc (suc (suc zero)))))))))))))))))))) y e = absurd (no_word y e)
read_at (suc (suc (suc (suc (suc (suc (suc (suc (suc (suc (suc (suc (suc (suc (suc (suc (suc (suc (suc (suc (suc n))))))))))))))))))))) y e = absurd (beyond n y _ e)

meta_at : (place : ℕ) → is_meta_at (slice_get (tree_of p 0) place) ≡ true → ⊥
meta_at zero e = true≢false (sym e)
meta_at (suc zero) e = true≢false (sym e)
meta_at (suc (suc zero)) e = true≢false (sym e)
meta_at (suc (suc (suc zero))) e = true≢false (sym e)
meta_at (suc (suc (suc (suc zero)))) e = true≢false (sym e)
meta_at (suc (suc (suc (suc (suc zero))))) e = true≢false (sym e)
meta_at (suc (suc (suc (suc (suc (suc zero)))))) e = true≢false (sym e)
meta_at (suc (suc (suc (suc (suc (suc (suc zero))))))) e = true≢false (sym e)
meta_at (suc (suc (suc (suc (suc (suc (suc (suc zero)))))))) e = true≢false (sym e)
meta_at (suc (suc (suc (suc (suc (suc (suc (suc (suc zero))))))))) e = true≢false (sym e)
meta_at (suc (suc (suc (suc (suc (suc (suc (suc (suc (suc zero)))))))))) e = true≢false (sym e)
meta_at (suc (suc (suc (suc (suc (suc (suc (suc (suc (suc (suc zero))))))))))) e = true≢false (sym e)
meta_at (suc (suc (suc (suc (suc (suc (suc (suc (suc (suc (suc (suc zero)))))))))))) e = true≢false (sym e)
meta_at (suc (suc (suc (suc (suc (suc (suc (suc (suc (suc (suc (suc (suc zero))))))))))))) e = true≢false (sym e)
meta_at (suc (suc (suc (suc (suc (suc (suc (suc (suc (suc (suc (suc (suc (suc zero)))))))))))))) e = true≢false (sym e)
meta_at (suc (suc (suc (suc (suc (suc (suc (suc (suc (suc (suc (suc (suc (suc (suc zero))))))))))))))) e = true≢false (sym e)
meta_at (suc (suc (suc (suc (suc (suc (suc (suc (suc (suc (suc (suc (suc (suc (suc (suc zero)))))))))))))))) e = true≢false (sym e)
meta_at (suc (suc (suc (suc (suc (suc (suc (suc (suc (suc (suc (suc (suc (suc (suc (suc (suc zero))))))))))))))))) e = true≢false (sym e)
meta_at (suc (suc (suc (suc (suc (suc (suc (suc (suc (suc (suc (suc (suc (suc (suc (suc (suc (suc zero)))))))))))))))))) e = true≢false (sym e)
meta_at (suc (suc (suc (suc (suc (suc (suc (suc (suc (suc (suc (suc (suc (suc (suc (suc (suc (suc (suc zero))))))))))))))))))) e = true≢false (sym e)
meta_at (suc (suc (suc (suc (suc (suc (suc (suc (suc (suc (suc (suc (suc (suc (suc (suc (suc (suc (suc (suc zero)))))))))))))))))))) e = true≢false (sym e)
meta_at (suc (suc (suc (suc (suc (suc (suc (suc (suc (suc (suc (suc (suc (suc (suc (suc (suc (suc (suc (suc (suc n))))))))))))))))))))) e = true≢false (sym e)

-- and the read means the declaration of x alone: `ns` is the namespace of a, and nothing else
abbrev ns : Text
ns = codes "ns"

abbrev its_import : ImportEntry
its_import = record { local = ns; specifier = codes "./a"; taken = Whole }

imports_it : (entry : ImportEntry) (y : Text) → y ≡ ns → import_of (imports p 0) y ≡ Some entry → entry ≡ its_import
imports_it entry y is found = sym (same_entry (subst (λ w. import_of (imports p 0) w ≡ Some entry) is found))
  where
    same_entry : Some its_import ≡ Some entry → its_import ≡ entry
    same_entry e = cc

is_imported : (y : Text) → y ≡ ns → import_of (imports p 0) y ≡ None → ⊥
is_imported y is none = not_none (subst (λ z. import_of (imports p 0) z ≡ None) is none)
  where
    not_none : Some its_import ≡ None → ⊥
    not_none e = cc

of_a : (s : Text) (what : Taken) (t : Target) → s ≡ codes "./a" → what ≡ Whole → Takes p 0 s what t → t ≡ Namespace 1
of_a s what t same whole (of_external out) = absurd (true≢false (sym out ∙ ap (is_external p) same))
of_a s what t same whole (of_common_js found c) = absurd (es_plain main _ c)
of_a s what t same whole (of_module {d = d} source) = ap Namespace (sym (one_number (subst (λ w. resolves p 0 w ≡ Some d) same source.resolved)))
  where
    one_number : Some 1 ≡ Some d → 1 ≡ d
    one_number e = cc

whole_is_no_name : (entry : ImportEntry) (w : Text) → entry ≡ its_import → entry.taken ≡ Named w → ⊥
whole_is_no_name entry w is by = not_whole (sym (ap (λ (e : ImportEntry). e.taken) is) ∙ by)
  where
    not_whole : Whole ≡ Named w → ⊥
    not_whole e = cc

its_namespace : (y : Text) (t : Target) → y ≡ ns → StandsFor p 0 y t → t ≡ Namespace 1
its_namespace y t is (declared stands none) = absurd (is_imported y is none)
its_namespace y t is (imported {y = z} entry found by_its_name source linked) = absurd (whole_is_no_name entry z (imports_it entry y is found) by_its_name)
its_namespace y t is (taken_whole entry found takes) = let same = imports_it entry y is found in of_a entry.specifier entry.taken t (ap (λ (e : ImportEntry). e.specifier) same) (ap (λ (e : ImportEntry). e.taken) same) takes

same_name : (y : Text) → Some (Bound Top (plain_name ns)) ≡ Some (Bound Top (plain_name y)) → y ≡ ns
same_name y e = sym (ap (λ (name : SourceName). name.sym) (same_bound e))
  where
    same_bound : Some (Bound Top (plain_name ns)) ≡ Some (Bound Top (plain_name y)) → plain_name ns ≡ plain_name y
    same_bound e = cc

ns_reads : (place : ℕ) (t : Target) → place ≡ 13 → ReadsAs p 0 place t → t ≡ Namespace 1
ns_reads place t is (by_name {x = y} denotes stands) = its_namespace y t (same_name y (subst (λ at. denoted_at BySymbol Es (tree_of p 0) at ≡ Some (Bound Top (plain_name y))) is denotes)) stands
ns_reads place t is (by_read {x = y} word reads linked) = absurd (no_word y (subst (λ at. read_word (tree_of p 0) at ≡ Some y) is word))

only_x : (d : ℕ) (y : Text) (t : Target) → d ≡ 1 → y ≡ x → Linked p d y t → t ≡ Declared 1 x
only_x d y t module_a is_x linked = sym ((subst (λ z. Linked p 1 z t) is_x (subst (λ m. Linked p m y t) module_a linked)).only (Declared 1 x) ((x_is_linked main).origin) (x_is_linked main).given).0

x_reads : (place : ℕ) (t : Target) → place ≡ 12 → ReadsAs p 0 place t → t ≡ Declared 1 x
x_reads place t is (by_name {x = y} denotes stands) = absurd (no_name (subst (λ at. denoted_at BySymbol Es (tree_of p 0) at ≡ Some (Bound Top (plain_name y))) is denotes))
  where
    no_name : None ≡ Some (Bound Top (plain_name y)) → ⊥
    no_name e = cc
x_reads place t is (by_read {d = d} {x = y} word reads linked) = only_x d y t (one_namespace (ns_reads _ (Namespace d) (ap suc is) reads)) (sym (same_word (subst (λ at. read_word (tree_of p 0) at ≡ Some y) is word))) linked
  where
    one_namespace : Namespace d ≡ Namespace 1 → d ≡ 1
    one_namespace e = cc

    same_word : Some x ≡ Some y → x ≡ y
    same_word e = cc

replaced_by : (place : ℕ) (by : Replacement) → place ≡ 12 → Replaced p 0 place by → by ≡ ByName (Of (Declared 1 x))
replaced_by place by at_x (static_read {t = t} word reads) = ap (λ u. ByName (Of u)) (x_reads place t at_x reads)
replaced_by place by at_x (import_meta is) = absurd (meta_at place is)
replaced_by place by at_x (require_call call (k, h, e) at resolved) = grind arith

replaced_at : (place : ℕ) (by : Replacement) → Replaced p 0 place by → place ≡ 12
replaced_at place by (static_read {x = y} word reads) = read_at place y word
replaced_at place by (import_meta is) = absurd (meta_at place is)
replaced_at place by (require_call call (k, h, e) at resolved) = grind arith

not_there : (place : ℕ) → ((place == 12) ≡ false) → (by : Replacement) → Replaced p 0 place by → ⊥
not_there place other by is = true≢false (sym (ap (λ at. at == 12) (replaced_at place by is)) ∙ other)

-- the statement `use(ns.x);` means `use(l);`, where `use` is a global and l the declaration of x in a
use_means : OwnMeaning p 0 (taken_from 8 (calls (codes "use") (member 1 (uses 0 (codes "ns")) x)))
    (Begins 0 h.ExprStmt ∷ Begins 0 h.CallExpr ∷ Name 0 (Unbound (codes "use")) ∷ Begins 1 (h.ExprOrSpread false) ∷ Name 1 (Known (Of (Declared 1 x))) ∷ Ends ∷ Ends ∷ Ends ∷ [])
use_means = record {
  kind = Es;
  has_kind = is_es (es_plain main 0);
  means = begun (not_there _ refl) (begun (not_there _ refl) (named (Global (codes "use")) _ refl unbound (begun (not_there _ refl) (replaced (ByName (Of (Declared 1 x))) x_is_replaced (ended (ended (ended finished)))))));
}

-- in the bundle `const x = 1; use(x);` the second statement means the same, where x stands for the declaration in a
abbrev bundle : List Item
bundle = module_of (declares Const x (number 1 (codes "1")) ++ calls (codes "use") (uses 1 x))

abbrev labels : Labelling
labels = (Bound Top (plain_name x), Of (Declared 1 x)) ∷ []

second_means : StatementMeans (bundle_sense bundle BySymbol labels) 10 (taken_from 10 (calls (codes "use") (uses 1 x)))
    (Begins 0 h.ExprStmt ∷ Begins 0 h.CallExpr ∷ Name 0 (Unbound (codes "use")) ∷ Begins 1 (h.ExprOrSpread false) ∷ Name 1 (Known (Of (Declared 1 x))) ∷ Ends ∷ Ends ∷ Ends ∷ [])
second_means = begun (λ by none. none) (begun (λ by none. none) (named _ _ refl unbound (begun (λ by none. none) (named _ _ refl (outside refl (0, lit< tt, refl)) (ended (ended (ended finished)))))))

-- a shorthand is spelled out, and `__proto__` gets a computed key: `({ y, __proto__ })` as an argument
abbrev shorthands : List Item
shorthands = module_of (calls (codes "use") (node 1 h.ObjectLit (uses 0 (codes "y") ++ uses 0 (codes "__proto__"))))

shorthands_mean : StatementMeans (bundle_sense shorthands BySymbol []) 1 (taken_from 1 (calls (codes "use") (node 1 h.ObjectLit (uses 0 (codes "y") ++ uses 0 (codes "__proto__")))))
    (Begins 0 h.ExprStmt ∷ Begins 0 h.CallExpr ∷ Name 0 (Unbound (codes "use")) ∷ Begins 1 (h.ExprOrSpread false) ∷ Begins 1 h.ObjectLit
    ∷ Begins 0 h.KeyValueProp ∷ Begins 0 (h.IdentName (codes "y")) ∷ Ends ∷ Name 1 (Unbound (codes "y")) ∷ Ends
    ∷ Begins 0 h.KeyValueProp ∷ Begins 0 h.ComputedPropName ∷ Begins 0 (h.Str (codes "__proto__") None) ∷ Ends ∷ Ends ∷ Name 1 (Unbound (codes "__proto__")) ∷ Ends
    ∷ Ends ∷ Ends ∷ Ends ∷ Ends ∷ [])
shorthands_mean = begun (λ by none. none) (begun (λ by none. none) (named _ _ refl unbound (begun (λ by none. none) (begun (λ by none. none) (named _ _ refl unbound (named _ _ refl unbound (ended (ended (ended (ended finished))))))))))

-- an inner binding is told by its number: `function f(a) { return a; }` of a bundle in which nothing else stands
abbrev inner : List Item
inner = module_of (node 0 h.FnDecl (binds 0 (codes "f") ++ node 1 (h.Function false false) (node 0 h.Param (node 0 h.BindingIdent (binds 0 (codes "a"))) ++ node 1 h.BlockStmt (node 0 h.ReturnStmt (uses 0 (codes "a"))))))

its_bindings : inner_bindings (record { tree = inner; kind = Es; reading = BySymbol }) 0 (taken_from 1 (inside_of inner)) ≡ Bound (Inner Parameters 3) (plain_name (codes "a")) ∷ []
its_bindings = refl

-- a static read is none where it is written to, or is the base of an optional chain: `ns.x = 1;`, `delete (ns.x);`, `ns?.x;`
written_to : read_word (module_of (runs (node 0 (h.AssignExpr Assign) (member 1 (uses 0 (codes "ns")) x ++ number 2 (codes "1"))))) 3 ≡ None
written_to = refl

deleted : read_word (module_of (runs (node 0 (h.UnaryExpr Delete) (node 1 h.ParenExpr (member 0 (uses 0 (codes "ns")) x))))) 4 ≡ None
deleted = refl

optional : read_word (module_of (runs (node 0 (h.OptChainExpr true) (member 1 (uses 0 (codes "ns")) x)))) 3 ≡ None
optional = refl

-- but `ns.x.y = 1;` reads `ns.x`
read_under_write : read_word (module_of (runs (node 0 (h.AssignExpr Assign) (member 1 (member 0 (uses 0 (codes "ns")) x) (codes "y") ++ number 2 (codes "1"))))) 4 ≡ Some x
read_under_write = refl

-- the form of `use(ns.x);` in a bundle: a name in the place of the read, whatever it is called
use_keeps_form : KeepsForm p 0 (taken_from 8 (calls (codes "use") (member 1 (uses 0 (codes "ns")) x)))
    (runs (node 0 h.CallExpr (h.Ident 0 (codes "use") 1 Reference ∷ argument (h.Ident 1 x 4 Reference ∷ []))))
use_keeps_form = record {
  named = calls (codes "use") (uses 1 x);
  with_names = stays (not_there _ refl) (stays (not_there _ refl) (stays tt (stays (not_there _ refl) (is_replaced (x, 0) (ByName (Of (Declared 1 x))) x_is_replaced (stays tt (stays tt (stays tt over)))))));
  same = refl;
}

-- `use({ y });`, in which nothing is replaced
abbrev short_call : List Item
short_call = calls (codes "use") (node 1 h.ObjectLit (uses 0 (codes "y")))

abbrev q : Program
q = plain short_call

nothing : (place : ℕ) → denoted_at BySymbol Es (tree_of q 0) place ≡ None → read_word (tree_of q 0) place ≡ None → is_meta_at (slice_get (tree_of q 0) place) ≡ false → (by : Replacement) → Replaced q 0 place by → ⊥
nothing place no_name no_word no_meta = not_replaced q 0 place no_name no_word no_meta refl

short_named : WithNames q 0 (taken_from 1 short_call) short_call
short_named = stays (nothing _ refl refl refl) (stays (nothing _ refl refl refl) (stays tt (stays (nothing _ refl refl refl) (stays (nothing _ refl refl refl) (stays tt (stays tt (stays tt (stays tt (stays tt over)))))))))

-- the shorthand stays where its symbol does, and is spelled out where that changes
shorthand_stays : KeepsForm q 0 (taken_from 1 short_call) (runs (node 0 h.CallExpr (h.Ident 0 (codes "use") 1 Reference ∷ argument (node 1 h.ObjectLit (h.Ident 0 (codes "y") 7 Reference ∷ [])))))
shorthand_stays = record { named = short_call; with_names = short_named; same = refl }

shorthand_spelled_out : KeepsForm q 0 (taken_from 1 short_call) (calls (codes "use") (node 1 h.ObjectLit (node 0 h.KeyValueProp (word 0 (codes "y") ++ uses 1 (codes "z")))))
shorthand_spelled_out = record { named = short_call; with_names = short_named; same = refl }

-- it is spelled out nowhere else: not as `use({ y: y });`
stays_first : (e : Element) (rest : List Element) (items : List Item) → IsUnreplaced q 0 e → WithNames q 0 (e ∷ rest) items → (more : List Item) × (items ≡ cleared_item (item_of e) ∷ more) × WithNames q 0 rest more
stays_first _ rest _ none (is_replaced name by is more) = absurd (none by is)
stays_first _ rest _ none (stays {items = more} kept its) = (more, refl, its)

one_list : (items : List Item) → WithNames q 0 (taken_from 1 short_call) items → items ≡ short_call
one_list items its =
    let a = stays_first _ _ items (nothing 1 refl refl refl) its in
    let b = stays_first _ _ a.0 (nothing 2 refl refl refl) a.2 in
    let c = stays_first _ _ b.0 tt b.2 in
    let d = stays_first _ _ c.0 (nothing 4 refl refl refl) c.2 in
    let e = stays_first _ _ d.0 (nothing 5 refl refl refl) d.2 in
    let f = stays_first _ _ e.0 tt e.2 in
    let g = stays_first _ _ f.0 tt f.2 in
    let i = stays_first _ _ g.0 tt g.2 in
    let j = stays_first _ _ i.0 tt i.2 in
    let k = stays_first _ _ j.0 tt j.2 in
    a.1
    ∙ ap (λ l. h.Open 0 h.ExprStmt ∷ l) (b.1
    ∙ ap (λ l. h.Open 0 h.CallExpr ∷ l) (c.1
    ∙ ap (λ l. h.Ident 0 (codes "use") 0 Reference ∷ l) (d.1
    ∙ ap (λ l. h.Open 1 (h.ExprOrSpread false) ∷ l) (e.1
    ∙ ap (λ l. h.Open 1 h.ObjectLit ∷ l) (f.1
    ∙ ap (λ l. h.Ident 0 (codes "y") 0 Reference ∷ l) (g.1
    ∙ ap (λ l. h.Close ∷ l) (i.1
    ∙ ap (λ l. h.Close ∷ l) (j.1
    ∙ ap (λ l. h.Close ∷ l) (k.1
    ∙ ap (λ l. h.Close ∷ l) (ended_there k.0 k.2))))))))))
  where
    ended_there : (more : List Item) → WithNames q 0 [] more → more ≡ []
    ended_there _ over = refl

needless : KeepsForm q 0 (taken_from 1 short_call) (calls (codes "use") (node 1 h.ObjectLit (node 0 h.KeyValueProp (word 0 (codes "y") ++ uses 1 (codes "y"))))) → ⊥
needless its = differ (ap (λ l. slice_get l 5) (its.same ∙ ap (λ l. with_idents l ((codes "use", 0) ∷ (codes "y", 0) ∷ [])) (one_list its.named its.with_names)))
  where
    differ : Some (h.Open 0 h.KeyValueProp) ≡ Some (h.Ident 0 (codes "y") 0 Reference) → ⊥
    differ e = cc
