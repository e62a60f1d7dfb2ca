-- An item makes an alias exactly where its list tells one.
-- Where chains lead, and that one that does not end leads back.
use Rattle.std.proofs.Common.{◌≡◌, ℕ, ◌==◌, ◌&&◌, nat_eq, Bool, true, false, List, [], ◌∷◌, Option, Some, None, refl, sym, ap, subst, ◌∙◌, eqb-true, arith, length, if◌then◌else◌, zero, suc, ◌+◌, ◌<◌, ◌≤◌, get_or, zero-add}
use Rattle.std.specs.Prelude.{is_some, slice_get, ◌-◌, map}
use Rattle.std.proofs.lemmas.Bool.{false≢true, true≢false}
use Rattle.std.proofs.lemmas.Option.{same_Some, slice_get-get_or}
use Rattle.std.proofs.lemmas.List.{get_or-map, length-map}
use Rattle.bundle_syntax.specs.declared.kind.ExportMetadata.{ExportMetadata}
use Rattle.bundle_syntax.specs.declared.kind.VarDeclKind.{VarDeclKind}
use Rattle.bundle_syntax.specs.declared.kind.VarDeclKind.TheVariants.{Const}
use Rattle.bundle_syntax.specs.declared.piece.Role.{Role}
use Rattle.bundle_syntax.specs.declared.piece.Role.TheVariants.{Binding, Reference}
use Rattle.bundle_syntax.specs.Item as h
use Rattle.bundle_syntax.specs.Item.{Item, Head}
use Rattle.bundle_rules.specs.Aliases.{MakesAlias}
use Rattle.bundle_rules.specs.Idents.{Ident}
use Rattle.bundle_merge_modules.specs.Aliased.{alias_in, begins_in_field, both, is_binding_role, is_const_head, is_const_kind, is_declarator_head, is_node_end, is_framed, is_pattern_head, is_reference, named_in_field}
use Rattle.bundle_merge_modules.specs.Chains.{AreEnds, AreFar, AreJumps, AreLast, AreNumbersBelow, EndsIn, HasOpen, HasRing, LeadsNowhere, NumberLeads, ChainLeads, LeadsWithin, is_last_at, leads_none, chain_step, step_to, walk}
use Rattle.bundle_merge_modules.specs.Chains.EndsIn.{here, further}
use Rattle.bundle_merge_modules.specs.Chains.ChainLeads.{one, more}
use Rattle.bundle_merge_modules.proofs.TreeLemmas.{pigeons}

-- ---- alias

-- an alias is told
pub told : (item : List Item) (a b : Ident) → MakesAlias item a b → alias_in item ≡ Some (a, b)
told item a b makes =
    ap alias_in makes.is ∙ ap (λ (c : Bool). if c && true then Some (a, b) else None) makes.noted

-- the parts of a test that is passed
front_of : (b c : Bool) → (b && c) ≡ true → b ≡ true
front_of true c e = refl
front_of false c e = absurd (false≢true e)

rest_of : (b c : Bool) → (b && c) ≡ true → c ≡ true
rest_of true c e = e
rest_of false c e = absurd (false≢true e)

-- a node that passes a test begins in a field
begun : (test : Head → Bool) (field : ℕ) (x : Item) → begins_in_field test field (Some x) ≡ true → (head : Head) × (x ≡ h.Open field head) × (test head ≡ true)
begun test field (h.Open at head) e =
    (head, ap (λ n. h.Open n head) (eqb-true at field (front_of (nat_eq at field) (test head) e)), rest_of (nat_eq at field) (test head) e)
begun test field (h.Ident at sym ctxt role) e = absurd (false≢true e)
begun test field (h.Hole at) e = absurd (false≢true e)
begun test field h.Close e = absurd (false≢true e)

ended : (x : Item) → is_node_end (Some x) ≡ true → x ≡ h.Close
ended (h.Open at head) e = absurd (false≢true e)
ended (h.Ident at sym ctxt role) e = absurd (false≢true e)
ended (h.Hole at) e = absurd (false≢true e)
ended h.Close e = refl

const_kind : (kind : VarDeclKind) → is_const_kind kind ≡ true → kind ≡ Const
const_kind Const e = refl
const_kind _ e = absurd (false≢true e)

const_head : (head : Head) → is_const_head head ≡ true → (meta : ExportMetadata) × (head ≡ h.VarDecl Const meta) × (meta.injected ≡ true)
const_head (h.VarDecl kind meta) e =
    (meta, ap (λ k. h.VarDecl k meta) (const_kind kind (front_of (is_const_kind kind) meta.injected e)), rest_of (is_const_kind kind) meta.injected e)
const_head _ e = absurd (false≢true e)

declarator_head : (head : Head) → is_declarator_head head ≡ true → head ≡ h.VarDeclarator
declarator_head h.VarDeclarator e = refl
declarator_head _ e = absurd (false≢true e)

pattern_head : (head : Head) → is_pattern_head head ≡ true → head ≡ h.BindingIdent
pattern_head h.BindingIdent e = refl
pattern_head _ e = absurd (false≢true e)

binding : (role : Role) → is_binding_role role ≡ true → role ≡ Binding
binding Binding e = refl
binding _ e = absurd (false≢true e)

reference : (role : Role) → is_reference role ≡ true → role ≡ Reference
reference Reference e = refl
reference _ e = absurd (false≢true e)

pub none_some : {A : Type 0} {a : A} → None ≡ Some a → ⊥
none_some {A} e = subst test e tt
  where
    test : Option A → Type 0
    test None = Unit {0}
    test (Some a) = ⊥

-- an identifier in a field, whose role passes a test
name_in : (test : Role → Bool) (wanted : Role) → ((role : Role) → test role ≡ true → role ≡ wanted) → (field : ℕ) (x : Item) (a : Ident) → named_in_field test field (Some x) ≡ Some a → x ≡ h.Ident field a.0 a.1 wanted
name_in test wanted only field (h.Open at head) a e = absurd (none_some e)
name_in test wanted only field (h.Hole at) a e = absurd (none_some e)
name_in test wanted only field h.Close a e = absurd (none_some e)
name_in test wanted only field (h.Ident at sym ctxt role) a e = by (nat_eq at field && test role) refl e
  where
    by : (b : Bool) → (nat_eq at field && test role) ≡ b → (if b then Some (sym, ctxt) else None) ≡ Some a → h.Ident at sym ctxt role ≡ h.Ident field a.0 a.1 wanted
    by false is e = absurd (none_some e)
    by true is e =
        let same : (sym, ctxt) ≡ a = same_Some (sym, ctxt) a e in
        ap (λ n. h.Ident n sym ctxt role) (eqb-true at field (front_of (nat_eq at field) (test role) is))
        ∙ ap (λ r. h.Ident field sym ctxt r) (only role (rest_of (nat_eq at field) (test role) is))
        ∙ ap (λ (i : Ident). h.Ident field i.0 i.1 wanted) same

-- both are there
both_there : (x y : Option Ident) (a b : Ident) → both x y ≡ Some (a, b) → (x ≡ Some a) × (y ≡ Some b)
both_there None y a b e = absurd (none_some e)
both_there (Some x) None a b e = absurd (none_some e)
both_there (Some x) (Some y) a b e = let same : (x, y) ≡ (a, b) = same_Some (x, y) (a, b) e in (ap (λ (p : Ident × Ident). Some p.0) same, ap (λ (p : Ident × Ident). Some p.1) same)

-- a list of eight that passes the tests is that of an alias
eight : (x0 x1 x2 x3 x4 x5 x6 x7 : Item) (a b : Ident)
    → begins_in_field is_const_head 0 (Some x0) ≡ true → begins_in_field is_declarator_head 1 (Some x1) ≡ true → begins_in_field is_pattern_head 0 (Some x2) ≡ true
    → is_node_end (Some x4) ≡ true → is_node_end (Some x6) ≡ true → is_node_end (Some x7) ≡ true → named_in_field is_binding_role 0 (Some x3) ≡ Some a → named_in_field is_reference 1 (Some x5) ≡ Some b
    → MakesAlias (x0 ∷ x1 ∷ x2 ∷ x3 ∷ x4 ∷ x5 ∷ x6 ∷ x7 ∷ []) a b
eight x0 x1 x2 x3 x4 x5 x6 x7 a b e0 e1 e2 e4 e6 e7 e3 e5 =
    let first = begun is_const_head 0 x0 e0 in
    let const = const_head first.0 first.2 in
    let second = begun is_declarator_head 1 x1 e1 in
    let third = begun is_pattern_head 0 x2 e2 in
    let f0 : x0 ≡ h.Open 0 (h.VarDecl Const const.0) = first.1 ∙ ap (h.Open 0) const.1 in
    let f1 : x1 ≡ h.Open 1 h.VarDeclarator = second.1 ∙ ap (h.Open 1) (declarator_head second.0 second.2) in
    let f2 : x2 ≡ h.Open 0 h.BindingIdent = third.1 ∙ ap (h.Open 0) (pattern_head third.0 third.2) in
    let f3 = name_in is_binding_role Binding binding 0 x3 a e3 in
    let f5 = name_in is_reference Reference reference 1 x5 b e5 in
    record {
      meta = const.0;
      is =
          ap (λ x. x ∷ x1 ∷ x2 ∷ x3 ∷ x4 ∷ x5 ∷ x6 ∷ x7 ∷ []) f0
          ∙ ap (λ x. h.Open 0 (h.VarDecl Const const.0) ∷ x ∷ x2 ∷ x3 ∷ x4 ∷ x5 ∷ x6 ∷ x7 ∷ []) f1
          ∙ ap (λ x. h.Open 0 (h.VarDecl Const const.0) ∷ h.Open 1 h.VarDeclarator ∷ x ∷ x3 ∷ x4 ∷ x5 ∷ x6 ∷ x7 ∷ []) f2
          ∙ ap (λ x. h.Open 0 (h.VarDecl Const const.0) ∷ h.Open 1 h.VarDeclarator ∷ h.Open 0 h.BindingIdent ∷ x ∷ x4 ∷ x5 ∷ x6 ∷ x7 ∷ []) f3
          ∙ ap (λ x. h.Open 0 (h.VarDecl Const const.0) ∷ h.Open 1 h.VarDeclarator ∷ h.Open 0 h.BindingIdent ∷ h.Ident 0 a.0 a.1 Binding ∷ x ∷ x5 ∷ x6 ∷ x7 ∷ []) (ended x4 e4)
          ∙ ap (λ x. h.Open 0 (h.VarDecl Const const.0) ∷ h.Open 1 h.VarDeclarator ∷ h.Open 0 h.BindingIdent ∷ h.Ident 0 a.0 a.1 Binding ∷ h.Close ∷ x ∷ x6 ∷ x7 ∷ []) f5
          ∙ ap (λ x. h.Open 0 (h.VarDecl Const const.0) ∷ h.Open 1 h.VarDeclarator ∷ h.Open 0 h.BindingIdent ∷ h.Ident 0 a.0 a.1 Binding ∷ h.Close ∷ h.Ident 1 b.0 b.1 Reference ∷ x ∷ x7 ∷ []) (ended x6 e6)
          ∙ ap (λ x. h.Open 0 (h.VarDecl Const const.0) ∷ h.Open 1 h.VarDeclarator ∷ h.Open 0 h.BindingIdent ∷ h.Ident 0 a.0 a.1 Binding ∷ h.Close ∷ h.Ident 1 b.0 b.1 Reference ∷ h.Close ∷ x ∷ []) (ended x7 e7);
      noted = const.2;
    }

framed : (item : List Item) (a b : Ident) → is_framed item ≡ true → both (named_in_field is_binding_role 0 (slice_get item 3)) (named_in_field is_reference 1 (slice_get item 5)) ≡ Some (a, b) → MakesAlias item a b
framed (x0 ∷ x1 ∷ x2 ∷ x3 ∷ x4 ∷ x5 ∷ x6 ∷ x7 ∷ []) a b e named_both =
    let f0 = begins_in_field is_const_head 0 (Some x0) in
    let f1 = begins_in_field is_declarator_head 1 (Some x1) in
    let f2 = begins_in_field is_pattern_head 0 (Some x2) in
    let f4 = is_node_end (Some x4) in
    let f6 = is_node_end (Some x6) in
    let f7 = is_node_end (Some x7) in
    let r1 = rest_of f0 (f1 && (f2 && (f4 && (f6 && f7)))) e in
    let r2 = rest_of f1 (f2 && (f4 && (f6 && f7))) r1 in
    let r4 = rest_of f2 (f4 && (f6 && f7)) r2 in
    let r6 = rest_of f4 (f6 && f7) r4 in
    let names = both_there (named_in_field is_binding_role 0 (Some x3)) (named_in_field is_reference 1 (Some x5)) a b named_both in
    eight x0 x1 x2 x3 x4 x5 x6 x7 a b (front_of f0 (f1 && (f2 && (f4 && (f6 && f7)))) e) (front_of f1 (f2 && (f4 && (f6 && f7))) r1) (front_of f2 (f4 && (f6 && f7)) r2)
    (front_of f4 (f6 && f7) r4) (front_of f6 f7 r6) (rest_of f6 f7 r6) names.0 names.1
framed [] a b e n = absurd (false≢true e)
framed (x0 ∷ []) a b e n = absurd (false≢true e)
framed (x0 ∷ x1 ∷ []) a b e n = absurd (false≢true e)
framed (x0 ∷ x1 ∷ x2 ∷ []) a b e n = absurd (false≢true e)
framed (x0 ∷ x1 ∷ x2 ∷ x3 ∷ []) a b e n = absurd (false≢true e)
framed (x0 ∷ x1 ∷ x2 ∷ x3 ∷ x4 ∷ []) a b e n = absurd (false≢true e)
framed (x0 ∷ x1 ∷ x2 ∷ x3 ∷ x4 ∷ x5 ∷ []) a b e n = absurd (false≢true e)
framed (x0 ∷ x1 ∷ x2 ∷ x3 ∷ x4 ∷ x5 ∷ x6 ∷ []) a b e n = absurd (false≢true e)
framed (x0 ∷ x1 ∷ x2 ∷ x3 ∷ x4 ∷ x5 ∷ x6 ∷ x7 ∷ x8 ∷ rest) a b e n =
    let test = length (x0 ∷ x1 ∷ x2 ∷ x3 ∷ x4 ∷ x5 ∷ x6 ∷ x7 ∷ x8 ∷ rest) == 8 in
    absurd (omega (arith, eqb-true (length (x0 ∷ x1 ∷ x2 ∷ x3 ∷ x4 ∷ x5 ∷ x6 ∷ x7 ∷ x8 ∷ rest)) 8 (front_of test _ e)))

-- what is told is an alias
pub makes : (item : List Item) (a b : Ident) → alias_in item ≡ Some (a, b) → MakesAlias item a b
makes item a b e = by (is_framed item) refl e
  where
    by : (c : Bool) → is_framed item ≡ c → (if c then both (named_in_field is_binding_role 0 (slice_get item 3)) (named_in_field is_reference 1 (slice_get item 5)) else None) ≡ Some (a, b) → MakesAlias item a b
    by true is e = framed item a b is e
    by false is e = absurd (none_some e)

-- some alias is told
pub makes-some : (item : List Item) → is_some (alias_in item) ≡ true → (a : Ident) × (b : Ident) × MakesAlias item a b
makes-some item e = by (alias_in item) refl e
  where
    by : (o : Option (Ident × Ident)) → alias_in item ≡ o → is_some o ≡ true → (a : Ident) × (b : Ident) × MakesAlias item a b
    by None is e = absurd (false≢true e)
    by (Some p) is e = (p.0, p.1, makes item p.0 p.1 is)

-- none is told
pub makes-none : (item : List Item) → is_some (alias_in item) ≡ false → (a b : Ident) → MakesAlias item a b → ⊥
makes-none item e a b it = false≢true (sym e ∙ ap is_some (told item a b it))

-- ---- walk

-- what is read at a place
pub read_at : (next : List (Option ℕ)) (i : ℕ) (o : Option ℕ) → i < length next → get_or next i None ≡ o → slice_get next i ≡ Some o
read_at next i o l e = slice_get-get_or next i None l ∙ ap (λ (x : Option ℕ). Some x) e

module _ (next : List (Option ℕ)) where
  pub walk-add : (a b i : ℕ) → walk next (a + b) i ≡ walk next b (walk next a i)
  walk-add zero b i = ap (λ n. walk next n i) (zero-add b)
  walk-add (suc a) b i = let e : suc a + b ≡ suc (a + b) = omega arith in ap (λ n. walk next n i) e ∙ walk-add a b (chain_step next i)

  pub walk-more : (a i : ℕ) → walk next (a + 1) i ≡ chain_step next (walk next a i)
  walk-more a i = walk-add a 1 i

  -- one that leads to none stays
  walk-last : (k i : ℕ) → LeadsNowhere next i → walk next k i ≡ i
  walk-last zero i last = refl
  walk-last (suc k) i last = ap (λ (o : Option (Option ℕ)). walk next k (step_to o i)) last ∙ walk-last k i last

  module _ (within : LeadsWithin next) where
    step-within : (i : ℕ) → i < length next → chain_step next i < length next
    step-within i l = by (slice_get next i) refl
      where
        by : (o : Option (Option ℕ)) → slice_get next i ≡ o → step_to o i < length next
        by None e = l
        by (Some None) e = l
        by (Some (Some j)) e = within i j e

    pub walk-within : (k i : ℕ) → i < length next → walk next k i < length next
    walk-within zero i l = l
    walk-within (suc k) i l = walk-within k (chain_step next i) (step-within i l)

    -- a walk that comes to one that leads to none
    pub walk-ends : (k i : ℕ) → i < length next → LeadsNowhere next (walk next k i) → EndsIn next i (walk next k i)
    walk-ends zero i l last = here last
    walk-ends (suc k) i l last = by (slice_get next i) refl (walk-ends k (chain_step next i) (step-within i l) last)
      where
        by : (o : Option (Option ℕ)) → slice_get next i ≡ o → EndsIn next (chain_step next i) (walk next k (chain_step next i)) → EndsIn next i (walk next k (chain_step next i))
        by None e ends = absurd (let there = slice_get-get_or next i None l in cc)
        by (Some None) e ends = subst (λ x. EndsIn next i x) (sym (walk-last (suc k) i e)) (here e)
        by (Some (Some j)) e ends = further (e ∙ ap (λ (o : Option (Option ℕ)). Some (Some (step_to o i))) (sym e)) ends

    -- a walk of as many steps as there are numbers, or more, at the end of which a number still leads on
    module _ (i reach : ℕ) (l : i < length next) (far : length next ≤ reach) (still : is_last_at next (walk next reach i) ≡ false) where
      at : (m : ℕ) → m ≤ reach → NumberLeads next (walk next m i) (chain_step next (walk next m i))
      at m below = by (slice_get next (walk next m i)) refl
        where
          stays : LeadsNowhere next (walk next m i) → walk next reach i ≡ walk next m i
          stays last = let e : reach ≡ m + (reach - m) = omega arith in ap (λ n. walk next n i) e ∙ walk-add m (reach - m) i ∙ walk-last (reach - m) (walk next m i) last

          by : (o : Option (Option ℕ)) → slice_get next (walk next m i) ≡ o → NumberLeads next (walk next m i) (chain_step next (walk next m i))
          by None e = absurd (let there = slice_get-get_or next (walk next m i) None (walk-within m i l) in cc)
          by (Some None) e = absurd (true≢false (ap leads_none (sym e) ∙ ap (is_last_at next) (sym (stays e)) ∙ still))
          by (Some (Some j)) e = e ∙ ap (λ (o : Option (Option ℕ)). Some (Some (step_to o (walk next m i)))) (sym e)

      leads : (d a : ℕ) → a + suc d ≤ reach → ChainLeads next (walk next a i) (walk next (a + suc d) i)
      leads zero a below = subst (λ x. ChainLeads next (walk next a i) x) (sym (walk-more a i)) (one (at a (omega (arith, below))))
      leads (suc d) a below =
          let e : a + 1 + suc d ≡ a + suc (suc d) = omega arith in
          let rest : ChainLeads next (walk next (a + 1) i) (walk next (a + 1 + suc d) i) = leads d (a + 1) (omega (arith, below)) in
          more (at a (omega (arith, below)))
          (subst (λ x. ChainLeads next x (walk next (a + suc (suc d)) i)) (walk-more a i) (subst (λ n. ChainLeads next (walk next (a + 1) i) (walk next n i)) e rest))

      pub ring : HasRing next
      ring =
          let w = pigeons (length next) (λ k. walk next k i) (λ k _. walk-within k i l) in
          let d = w.1 - suc w.0 in
          let e : w.0 + suc d ≡ w.1 = omega (arith, w.2) in
          (walk next w.0 i, subst (λ x. ChainLeads next (walk next w.0 i) x) (ap (λ n. walk next n i) e ∙ sym w.4) (leads d w.0 (omega (arith, e, w.3, far))))

-- jumps twice as far
pub AreJumps-twice : (next : List (Option ℕ)) (reach : ℕ) (jumps twice : List ℕ) → LeadsWithin next → AreJumps next reach jumps → twice ≡ map (λ j. get_or jumps j 0) jumps → AreJumps next (reach + reach) twice
AreJumps-twice next reach jumps twice within are is = record {
  len = ap length is ∙ length-map jumps (λ j. get_or jumps j 0) ∙ are.len;
  each = λ i l.
      ap (λ (l : List ℕ). get_or l i 0) is
      ∙ get_or-map_in i l
      ∙ ap (λ j. get_or jumps j 0) (are.each i l)
      ∙ are.each (walk next reach i) (walk-within next within reach i l)
      ∙ sym (walk-add next reach reach i);
}
  where
    get_or-map_in : (i : ℕ) → i < length next → get_or (map (λ j. get_or jumps j 0) jumps) i 0 ≡ get_or jumps (get_or jumps i 0) 0
    get_or-map_in i l = get_or-map (λ j. get_or jumps j 0) jumps i 0 0 (omega (arith, l, are.len))

pub AreWithin-jumps : (next : List (Option ℕ)) (reach : ℕ) (jumps : List ℕ) → LeadsWithin next → AreJumps next reach jumps → AreNumbersBelow jumps (length next)
AreWithin-jumps next reach jumps within are = λ i l.
    let inside : i < length next = omega (arith, l, are.len) in
    subst (λ x. x < length next) (sym (are.each i inside)) (walk-within next within reach i inside)

pub AreWithin-given : (next : List (Option ℕ)) (reach : ℕ) (jumps given : List ℕ) → LeadsWithin next → AreJumps next reach jumps → given ≡ jumps → AreNumbersBelow given (length next)
AreWithin-given next reach jumps given within are is = subst (λ (l : List ℕ). AreNumbersBelow l (length next)) (sym is) (AreWithin-jumps next reach jumps within are)

-- all ends, or a ring
pub AreEnds-last : (next : List (Option ℕ)) (ends : List ℕ) → LeadsWithin next → AreFar next ends → AreLast next ends → AreEnds next ends
AreEnds-last next ends within are last = record {
  len = are.are.len;
  each = λ i l.
      let e = are.are.each i l in
      subst (λ x. EndsIn next i x) (sym e) (walk-ends next within are.reach i l (last_at (walk next are.reach i) (ap (is_last_at next) (sym e) ∙ last i (omega (arith, l, are.are.len)))));
}
  where
    last_at : (j : ℕ) → is_last_at next j ≡ true → LeadsNowhere next j
    last_at j = by (slice_get next j)
      where
        by : (o : Option (Option ℕ)) → leads_none o ≡ true → o ≡ Some None
        by None e = absurd (true≢false (sym e))
        by (Some None) e = refl
        by (Some (Some k)) e = absurd (true≢false (sym e))

pub HasRing-open : (next : List (Option ℕ)) (ends : List ℕ) → LeadsWithin next → AreFar next ends → HasOpen next ends → HasRing next
HasRing-open next ends within are some =
    let l : some.0 < length next = omega (arith, some.1, are.are.len) in
    ring next within some.0 are.reach l are.far (ap (is_last_at next) (sym (are.are.each some.0 l)) ∙ some.2)
