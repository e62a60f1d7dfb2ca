-- Examples of the list of a program, and of what items need.
use Rattle.std.proofs.Common.{◌≡◌, ◌≢◌, ℕ, zero, suc, true, false, List, [], ◌∷◌, ◌++◌, inl, inr, Option, Some, None, refl, arith, lit<}
use Rattle.std.specs.Prelude.{codes, Contains, take, drop}
use Rattle.bundle_syntax.specs.declared.kind.VarDeclKind.TheVariants.{Const, Var}
use Rattle.bundle_syntax.specs.declared.operator.AssignOp.TheVariants.{Assign}
use Rattle.bundle_syntax.specs.Item as h
use Rattle.bundle_syntax.specs.Item.{Item}
use Rattle.bundle_syntax.specs.declared.piece.Role.TheVariants.{Binding, Reference}
use Rattle.bundle_rules.specs.Scopes.{Top, Inner, FunctionBody}
use Rattle.bundle_rules.specs.Declarations.{BySymbol, ByContext}
use Rattle.bundle_order_graph.specs.Walks.{itself, along}
use Rattle.bundle_order_graph.specs.Order.{finished, listed}
use Rattle.bundle_rules.specs.Statements.{top_items, placed, no_notes}
use Rattle.bundle_rules.specs.Program.{Program, requested, IsList, SharesBlock}
use Rattle.bundle_rules.specs.Order.{Mention, Group, group_of, Refers, DeclaresAt, Depends, IsStrong, Needs}
use Rattle.bundle_rules.specs.Nodes.{side_by_side}
use Rattle.bundle_rules.specs.Forms.{wrapped}
use Rattle.bundle_rules.proofs.Trees.{node, module_of, declares, exports_const, imports, imports_bare, exports_from, calls, runs, uses, word, member, number, function}
use Rattle.bundle_rules.proofs.Programs.{program}
use Rattle.bundle_rules.proofs.LinkingExamples.{x, one}

-- The list. main: `export { x } from './b'; import './a';` with a: `f(1);` and b: `export const x = 1;` gives b, a, main

abbrev p : Program
p = program (exports_from x x (codes "./b") ++ imports_bare (codes "./a")) (calls (codes "f") one) (exports_const x one) []

requests_in_order : requested p 0 ≡ 2 ∷ 1 ∷ []
requests_in_order = refl

not_in_nothing : (n : ℕ) → Contains [] n → ⊥
not_in_nothing n (k, h, e) = grind arith

not_in_one : (m n : ℕ) → m ≢ n → Contains (m ∷ []) n → ⊥
not_in_one m n other (zero, h, e) = other e
not_in_one m n other (suc k, h, e) = grind arith

not_in_two : (l m n : ℕ) → l ≢ n → m ≢ n → Contains (l ∷ m ∷ []) n → ⊥
not_in_two l m n one two (zero, h, e) = one e
not_in_two l m n one two (suc zero, h, e) = two e
not_in_two l m n one two (suc (suc k), h, e) = grind arith

its_list : IsList p (2 ∷ 1 ∷ 0 ∷ [])
its_list = listed (not_in_nothing 0) (listed {before = []} (not_in_one 0 2 (λ e. grind arith)) finished (listed {before = 2 ∷ []} (not_in_two 0 2 1 (λ e. grind arith) (λ e. grind arith)) finished finished)) finished

-- A block. main: `import { x } from './a';` and a: `import './main'; export const x = 1;` reach each other

abbrev cycle : Program
cycle = program (imports x x (codes "./a")) (imports_bare (codes "./main") ++ exports_const x one) [] []

one_block : SharesBlock cycle 0 1
one_block = (along (0, lit< tt, refl) itself, along (0, lit< tt, refl) itself, λ e. cc)

-- A need. Module 0: `b[0] = 133;` and module 1: `const b = 32;`: the first item needs the second

abbrev items : List Item
items = module_of (runs (node 0 (h.AssignExpr Assign) (node 1 h.MemberExpr (uses 0 (codes "b") ++ node 1 h.ComputedPropName (number 0 (codes "0"))) ++ number 2 (codes "133"))) ++ declares Const (codes "b") (number 1 (codes "32")))

abbrev g : Group
g = group_of BySymbol Top items (top_items items) (Some 0 ∷ Some 1 ∷ [])

-- an identifier that denotes the first top binding, and of which nothing else holds
abbrev plain : Mention
plain = record { top = Some 0; declares = false; later = false; assigned = false; argument = false; chain = false; prototype = false; valueless = false }

-- b is the one top binding: the first item assigns to a member of it, and the second declares it
its_mentions : g.items ≡ (record plain { chain = true } ∷ []) ∷ (record plain { declares = true } ∷ []) ∷ []
its_mentions = refl

refers_at_once : Refers g 0 0 (record plain { chain = true })
refers_at_once = record { at = 0; there = refl; denotes = refl; refers = refl }

declares_b : DeclaresAt g 1 0 0 (record plain { declares = true })
declares_b = record { there = refl; denotes = refl; declares = refl }

depends : Depends g 0 1
depends = record { other = λ e. grind arith; binding = 0; by = record plain { chain = true }; refers = refers_at_once; provides = inl (0, record plain { declares = true }, declares_b) }

strong : IsStrong g 0 1
strong = record { depends = depends; at_once = inr (record { binding = 0; by = record plain { chain = true }; refers = refers_at_once; at_once = refl; provides = inl (0, record plain { declares = true }, declares_b) }) }

needs : Needs g 0 1
needs = record { depends = depends; across = record { apart = λ m first second. cc }; holds = λ weak back. weak.not_strong strong }

-- What holds of identifiers. Each of these stands beside `var b;`, the first item

abbrev beside : List Item → List (List Mention)
beside item = let tree : List Item = module_of (declares Var (codes "b") [] ++ item) in (group_of BySymbol Top tree (top_items tree) []).items

abbrev declared : List Mention
declared = record plain { declares = true; valueless = true } ∷ []

-- another name than b
abbrev other : Mention
other = record plain { top = None }

-- `b.c = 1;`
member_is_set : beside (runs (node 0 (h.AssignExpr Assign) (member 1 (uses 0 (codes "b")) (codes "c") ++ number 2 (codes "1")))) ≡ declared ∷ (record plain { chain = true } ∷ []) ∷ []
member_is_set = refl

-- `b.c;`
member_is_read : beside (runs (member 0 (uses 0 (codes "b")) (codes "c"))) ≡ declared ∷ (plain ∷ []) ∷ []
member_is_read = refl

-- `function f() { b; }`: f is a top binding too, the second
read_later : beside (node 0 h.FnDecl (h.Ident 0 (codes "f") 0 Binding ∷ function 1 (runs (uses 0 (codes "b"))))) ≡ declared ∷ (record plain { top = Some 1; declares = true } ∷ record plain { later = true } ∷ []) ∷ []
read_later = refl

-- `f(b);`
in_argument : beside (calls (codes "f") (uses 1 (codes "b"))) ≡ declared ∷ (other ∷ record plain { argument = true } ∷ []) ∷ []
in_argument = refl

-- `Object.assign(b.prototype);`
abbrev assigns_to : ℕ → List Item
assigns_to ctxt = runs (node 0 h.CallExpr (node 0 h.MemberExpr (h.Ident 0 (codes "Object") ctxt Reference ∷ node 1 (h.IdentName (codes "assign")) []) ++ node 1 (h.ExprOrSpread false) (member 1 (uses 0 (codes "b")) (codes "prototype"))))

prototype_is_set : beside (assigns_to 0) ≡ declared ∷ (other ∷ record plain { argument = true; prototype = true } ∷ []) ∷ []
prototype_is_set = refl

-- read by contexts, where a part of a bundle stands alone, an `Object` that another part declares is not the global
abbrev alone : ℕ → List (List Mention)
alone ctxt = let tree : List Item = module_of (assigns_to ctxt) in (group_of ByContext Top tree (top_items tree) []).items

of_the_global : alone 1 ≡ (other ∷ record other { argument = true; prototype = true } ∷ []) ∷ []
of_the_global = refl

of_another_module : alone 5 ≡ (other ∷ record other { argument = true } ∷ []) ∷ []
of_another_module = refl

-- A group stays the same where names are changed, and in one function's call.

-- `const x = 1; use({ x });` with the context 2, and `const x1 = 1; use({ x: x1 });`
abbrev of_contexts : List Item
of_contexts = module_of (node 0 (h.VarDecl Const no_notes) (node 1 h.VarDeclarator (node 0 h.BindingIdent (h.Ident 0 x 2 Binding ∷ []) ++ one)) ++ calls (codes "use") (node 1 h.ObjectLit (h.Ident 0 x 2 Reference ∷ [])))

abbrev of_symbols : List Item
of_symbols = module_of (declares Const (codes "x1") one ++ calls (codes "use") (node 1 h.ObjectLit (node 0 h.KeyValueProp (word 0 x ++ uses 1 (codes "x1")))))

abbrev owners : List (Option ℕ)
owners = Some 0 ∷ Some 0 ∷ []

same_by_symbols : group_of ByContext Top of_contexts (top_items of_contexts) owners ≡ group_of BySymbol Top of_symbols (top_items of_symbols) owners
same_by_symbols = refl

-- the items of `(function () { const x1 = 1; use({ x: x1 }); return {}; })();`, without what it returns
same_in_a_call : group_of BySymbol Top of_symbols (top_items of_symbols) owners ≡ group_of BySymbol (Inner FunctionBody 6) (wrapped of_symbols) (take 2 (placed 7 (side_by_side zero (drop 7 (wrapped of_symbols))))) owners
same_in_a_call = refl
