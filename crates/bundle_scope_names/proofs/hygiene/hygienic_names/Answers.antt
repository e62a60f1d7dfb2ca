-- Each binding has its turn.
use Rattle.std.proofs.Common.{◌≡◌, ◌<◌, ◌+◌, [], ◌∷◌, true, ℕ, suc, Option, Some, List, map, length, get_or, unwrap_or, string_bytes, refl, ap, sym, ◌∙◌, subst, arith}
use Rattle.std.specs.Borrow.{Bor}
use Rattle.std.specs.Prelude.{slice_get}
use Rattle.std.specs.List.{list_any}
use Rattle.std.specs.Option.{option_map}
use Rattle.std.specs.declared.alloc.Global.{Global}
use Rattle.std.specs.declared.string.String.{String}
use Rattle.std.proofs.lemmas.List.{length-map}
use Rattle.std.proofs.lemmas.Option.{slice_get-get_or, slice_get_within, unwrap_or-slice_get}
use Rattle.bundle_syntax.specs.Item.{Item, item_of}
use Rattle.bundle_rules.specs.Nodes.{Text}
use Rattle.bundle_scope_denote.specs.declared.table.Binding.{Binding}
use Rattle.bundle_scope_denote.specs.declared.table.Denoted.{Denoted}
use Rattle.bundle_scope_denote.proofs.LoopLemmas.{take-whole}
use Rattle.bundle_scope_names.specs.declared.names.Names.{Names}
use Rattle.bundle_scope_names.specs.Called.{at}
use Rattle.bundle_scope_names.specs.Turns.{Facts, Place, AreInTurn, facts_of, homes_of, symbols_from, binding_symbol, home_number, is_before}
use Rattle.bundle_scope_names.specs.Marks.{Symbol, is_called_in, symbol_number}
use Rattle.bundle_scope_names.specs.Symbols.{HasSymbolNumber, HaveSymbolNumbers}
use Rattle.bundle_scope_names.proofs.SymbolLemmas.{declared-before, first-declares}
use Rattle.bundle_scope_names.proofs.HomesLemmas.{IsNamedTo, Renames, renames-none, named-first, named-next}
use Rattle.bundle_scope_names.proofs.hygiene.hygienic_names.Goals as goal
use Rattle.bundle_scope_names.proofs.hygiene.hygienic_names.Goals.{in-Some, in_default}

moved-turn : (b1 b2 : List Binding) (o1 o2 : List Denoted) (p1 p2 : List Place) → b1 ≡ b2 → o1 ≡ o2 → p1 ≡ p2 → AreInTurn (homes_of b1) o1 p1 → AreInTurn (homes_of b2) o2 p2
moved-turn b1 b2 o1 o2 p1 p2 e_b e_o e_p is = subst (λ p. AreInTurn (homes_of b2) o2 p) e_p (subst (λ o. AreInTurn (homes_of b2) o p1) e_o (subst (λ b. AreInTurn (homes_of b) o1 p1) e_b is))

symbols-same : (names : Names) (b1 b2 : List Binding) (s1 s2 : List (Bor Text)) → b1 ≡ b2 → s2 ≡ s1 → map (λ (s : Bor Text). s.now) s1 ≡ symbols_from names 0 b1 → symbols_from names 0 b2 ≡ map (λ (s : Bor Text). s.now) s2
symbols-same names b1 b2 s1 s2 e_b e_s is = ap (symbols_from names 0) (sym e_b) ∙ sym is ∙ ap (map (λ (s : Bor Text). s.now)) (sym e_s)

symbols-long : (names : Names) (number : ℕ) (bindings : List Binding) → length (homes_of bindings) ≡ length (symbols_from names number bindings)
symbols-long names number [] = refl
symbols-long names number (x ∷ rest) = ap suc (symbols-long names (number + 1) rest)

slice_get-unwrap_or : (texts : List Text) (i : ℕ) → i < length texts → slice_get texts i ≡ Some (unwrap_or (slice_get texts i) [])
slice_get-unwrap_or texts i lt = slice_get-get_or texts i [] lt ∙ ap (λ t. Some t) (sym (unwrap_or-slice_get texts i []))

numbers-same : (t1 t2 : List Text) (occurrences : List Denoted) (k1 k2 : List Symbol) (numbers : List (Option ℕ)) → t1 ≡ t2 → k1 ≡ k2 → HaveSymbolNumbers t1 occurrences k1 numbers → HaveSymbolNumbers t2 occurrences k2 numbers
numbers-same t1 t2 occurrences k1 k2 numbers e_t e_k has = subst (λ k. HaveSymbolNumbers t2 occurrences k numbers) e_k (subst (λ t. HaveSymbolNumbers t occurrences k1 numbers) e_t has)

-- the number of a symbol, as it is read
number-read : (symbols read : List (Bor Text)) (numbers read_numbers : List (Option ℕ)) (keys : List Symbol) (binding : ℕ) (text : Text) (number : Option ℕ) → read ≡ symbols → read_numbers ≡ numbers → text ≡ unwrap_or (slice_get (map (λ (s : Bor Text). s.now) read) binding) [] → number ≡ at read_numbers binding → HasSymbolNumber (map (λ (s : Bor Text). s.now) symbols) keys numbers binding → number ≡ symbol_number keys text
number-read symbols read numbers read_numbers keys binding text number e_read e_numbers is_text is_number has = is_number ∙ ap (λ l. at l binding) e_numbers ∙ has.is ∙ sym has.own ∙ ap (symbol_number keys) (sym (is_text ∙ ap (λ (l : List (Bor Text)). unwrap_or (slice_get (map (λ (s : Bor Text). s.now) l) binding) []) e_read))

pub loop-place-init : goal.loop-place-init
loop-place-init c =
    let items : List Item = map item_of c.args.pieces.now in
    let facts : Facts = facts_of c.args.denotations.now items c.args.keywords.now in
    let same = length-map c.args.denotations.now.bindings.items (λ (b : Binding). b.scope) in
    let count : c.len-2.result ≡ length facts.homes = omega (arith, same, c.len-2.ensures, c.args.denotations.now.bindings.ok.0) in
    let e_symbols = symbols-same c.args.keywords.now c.deref.result.now c.args.denotations.now.bindings.items c.in_ok-symbols.symbols.items c.deref-5.result.now c.deref.ensures.value c.deref-5.ensures.value c.in_ok-symbols.ensures in (
      named-first facts c.args.keywords.now c.deref-place-items.result.now c.in_ok-hygiene.hygiene c.in_ok-names.names
          (moved-turn c.deref-3.result.now c.args.denotations.now.bindings.items c.deref-4.result.now c.args.denotations.now.occurrences.items c.in_ok-places.places.items c.deref-place-items.result.now c.deref-3.ensures.value c.deref-4.ensures.value (sym c.deref-place-items.ensures.value) c.in_ok-places.ensures)
          (c.in_ok-hygiene.ensures.knows facts refl refl refl (λ text. c.in_ok-before.ensures.symbols text ∙ ap (λ l. list_any (is_called_in items l text) c.args.denotations.now.occurrences.items) (sym e_symbols)))
          (λ number lt. c.in_ok-names.ensures.same number (subst (λ n. number < n) (sym count) lt))
          (λ number lt. c.in_ok-names.ensures.same_contexts number (subst (λ n. number < n) (sym count) lt))
          (c.in_ok-names.ensures.texts ∙ count) (c.in_ok-names.ensures.contexts ∙ count),
      numbers-same (map (λ (s : Bor Text). s.now) c.deref-5.result.now) (map (λ (s : Bor Text). s.now) c.in_ok-symbols.symbols.items) c.args.denotations.now.occurrences.items c.in_ok-before.field-0.symbols.keys c.in_ok-hygiene.hygiene.symbols.keys c.in_ok-before.field-0.numbers.items (ap (map (λ (s : Bor Text). s.now)) c.deref-5.ensures.value) (sym c.in_ok-hygiene.ensures.symbols) c.in_ok-before.ensures.numbers,
    )

pub settle-requires-clause-within : goal.settle-requires-clause-within
settle-requires-clause-within c =
    let n : ℕ = c.loop-place.place-index in
    let place : Place = get_or c.deref-place-items.result.now n (0, 0, 0) in
    let is_at : slice_get c.deref-place-items.result.now n ≡ Some place = slice_get-get_or c.deref-place-items.result.now n _ c.loop-place-test.true in
    let homes : List ℕ = homes_of c.args.denotations.now.bindings.items in
    let lt : place.2 < length homes = slice_get_within homes place.2 place.0 (c.loop-place.invariant.0.in_turn.home n place is_at) in
    let same = length-map c.args.denotations.now.bindings.items (λ (b : Binding). b.scope) in
    omega (arith, lt, same, c.in_ok-uses.ensures.count, c.len.ensures, c.args.denotations.now.bindings.ok.0)

pub loop-place-preserved : goal.loop-place-preserved
loop-place-preserved c =
    let facts : Facts = facts_of c.args.denotations.now (map item_of c.args.pieces.now) c.args.keywords.now in
    let n : ℕ = c.loop-place.place-index in
    let place : Place = get_or c.deref-place-items.result.now n (0, 0, 0) in
    let one : suc n ≡ n + 1 = omega arith in
    let is_at : slice_get c.deref-place-items.result.now n ≡ Some place = slice_get-get_or c.deref-place-items.result.now n _ c.loop-place-test.true in
    let known = c.loop-place.invariant.0 in
    let is_home = known.in_turn.home n place is_at in
    let is_first = known.in_turn.first n place is_at in
    let lt : place.2 < length facts.homes = slice_get_within facts.homes place.2 place.0 is_home in
    let e_home : home_number facts place.2 ≡ place.0 = ap (λ (o : Option ℕ). unwrap_or o 0) is_home in
    let e_table = symbols-same c.args.keywords.now c.deref.result.now c.args.denotations.now.bindings.items c.in_ok-symbols.symbols.items c.in_ok-symbols.symbols.items c.deref.ensures.value refl c.in_ok-symbols.ensures in
    let e_symbols = symbols-same c.args.keywords.now c.deref.result.now c.args.denotations.now.bindings.items c.in_ok-symbols.symbols.items c.deref-in-loop-place.result.now c.deref.ensures.value c.deref-in-loop-place.ensures.value c.in_ok-symbols.ensures in
    let e_symbol : binding_symbol facts place.2 ≡ c.symbol_at.result.now = ap (λ (l : List Text). unwrap_or (slice_get l place.2) []) e_symbols ∙ sym c.symbol_at.ensures in
    let within : place.2 < length facts.symbols = subst (λ n. place.2 < n) (symbols-long c.args.keywords.now 0 c.args.denotations.now.bindings.items) lt in
    let has = c.loop-place.invariant.1 place.2 (subst (λ (l : List Text). place.2 < length l) e_table within) (first-declares facts.occurrences place.2 place.1 is_first) in
    let e_number : c.number_at.result ≡ symbol_number c.loop-place.hygiene.symbols.keys c.symbol_at.result.now = number-read c.in_ok-symbols.symbols.items c.deref-in-loop-place.result.now c.in_ok-before.field-0.numbers.items c.deref-in-loop-place-2.result.now c.loop-place.hygiene.symbols.keys place.2 c.symbol_at.result.now c.number_at.result c.deref-in-loop-place.ensures.value c.deref-in-loop-place-2.ensures.value c.symbol_at.ensures c.number_at.ensures has in
    let before : is_before facts (binding_symbol facts place.2) ≡ true = declared-before facts place.2 place.1 (binding_symbol facts place.2) is_first (slice_get-unwrap_or facts.symbols place.2 within) in
    let settled = c.in_ok-text.ensures.text facts known.turns refl refl e_home e_symbol e_number before known.knows in (
      subst (λ k. IsNamedTo facts c.args.keywords.now c.deref-place-items.result.now k c.settle.new.self c.match-text.names) one
          (named-next facts c.args.keywords.now c.deref-place-items.result.now n place c.loop-place.hygiene c.settle.new.self c.loop-place.names c.match-text.names (option_map string_bytes c.in_ok-text.text) known is_at
          (elim c.match-text.branch [
            | in-Some w ↦ subst (Renames place.2 (option_map string_bytes c.in_ok-text.text) c.loop-place.names) (sym w.names-is) (subst (λ (t : Option (String Global)). Renames place.2 (option_map string_bytes t) c.loop-place.names w.set_text.new.self) (sym w.in-Some.is) (record {
              own = w.set_text.ensures.own (subst (λ m. place.2 < m) (sym known.texts) lt);
              others = w.set_text.ensures.others;
              contexts = λ number. ap (λ (l : List (Option ℕ)). at l number) w.set_text.ensures.contexts;
              texts_len = w.set_text.ensures.texts;
              contexts_len = ap length w.set_text.ensures.contexts;
            }))
            | in_default w ↦ subst (Renames place.2 (option_map string_bytes c.in_ok-text.text) c.loop-place.names) (sym w.names-is) (subst (λ (t : Option (String Global)). Renames place.2 (option_map string_bytes t) c.loop-place.names c.loop-place.names) (sym w.in_default.is) (renames-none place.2 c.loop-place.names))
          ])
          settled.0 settled.1 settled.2 settled.3 settled.4),
      numbers-same (map (λ (s : Bor Text). s.now) c.in_ok-symbols.symbols.items) (map (λ (s : Bor Text). s.now) c.in_ok-symbols.symbols.items) c.args.denotations.now.occurrences.items c.loop-place.hygiene.symbols.keys c.settle.new.self.symbols.keys c.in_ok-before.field-0.numbers.items refl (sym c.in_ok-text.ensures.symbols) c.loop-place.invariant.1,
    )

pub returns-clause-named : goal.returns-clause-named
returns-clause-named c =
    let known = c.loop-place.invariant.0 in record {
      places = c.deref-place-items.result.now;
      in_turn = known.in_turn;
      turns = known.turns;
      same = known.same ∙ ap (map (λ (place : Place). place.2)) (take-whole c.deref-place-items.result.now c.loop-place.place-index c.loop-place-test.false);
      called = known.called;
    }
