-- The symbol is there and has its number, if there is one.
use Rattle.std.proofs.Common.{◌≡◌, ◌<◌, ◌||◌, length, map, ap, sym, ◌∙◌, subst}
use Rattle.std.specs.Borrow.{Bor}
use Rattle.std.proofs.lemmas.List.{length-map}
use Rattle.std.proofs.lemmas.Option.{slice_get_within}
use Rattle.bundle_syntax.specs.Item.{item_of}
use Rattle.bundle_rules.specs.Nodes.{Text}
use Rattle.bundle_scope_names.specs.Marks.{is_among}
use Rattle.bundle_scope_names.proofs.SymbolLemmas.{among-more, called-same, adds-symbol, adds-no_symbol}
use Rattle.bundle_scope_names.proofs.hygiene.Before.add.Goals as goal

pub returns-in_default : goal.returns-in_default
returns-in_default c = adds-no_symbol (map item_of c.args.pieces.now) (map (λ (s : Bor Text). s.now) c.args.symbols.now) c.args.occurrence c.args.self.now (c.requires ∙ sym (length-map c.args.symbols.now (λ (s : Bor Text). s.now))) (sym c.in_default.ensures)

pub returns : goal.returns
returns c =
    let same : c.set_number.new.self.symbols ≡ c.insert_full.new.self = c.set_number.ensures.symbols in
    let within : c.in_ok-number.number < length c.insert_full.new.self.keys = slice_get_within c.insert_full.new.self.keys c.in_ok-number.number c.in_ok-number.ensures.stored.0 c.in_ok-number.ensures.stored.1 in
    adds-symbol (map item_of c.args.pieces.now) (map (λ (s : Bor Text). s.now) c.args.symbols.now) c.args.occurrence c.args.self.now c.set_number.new.self c.in-Some.sym c.in_ok-number.number (sym c.in-Some.ensures)
    (λ text. ap (λ s. is_among text s.keys) same ∙ among-more text c.args.self.now.symbols.keys c.insert_full.new.self.keys _ c.in-Some.sym.now (sym c.in-Some.ensures) c.in_ok-number.ensures.updates.0 ∙ ap (λ b. is_among text c.args.self.now.symbols.keys || b) (called-same (map item_of c.args.pieces.now) (map (λ (s : Bor Text). s.now) c.args.symbols.now) text c.args.occurrence))
    (ap (λ s. s.keys) same ∙ c.in_ok-number.ensures.keys)
    c.in_ok-number.ensures.index
    (subst (λ s. c.in_ok-number.number < length s.keys) (sym same) within)
    c.set_number.ensures.count
    c.set_number.ensures.numbers
