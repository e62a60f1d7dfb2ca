-- A text is looked for among the words of its length.
use Rattle.std.proofs.Common.{◌≡◌, ◌==◌, false, length, arith, refl, List, ◌++◌, sym, ◌∙◌}
use Rattle.bundle_rules.specs.Nodes.{Text}
use Rattle.bundle_rules.specs.Keywords.{keywords, strict_words, older_words}
use Rattle.bundle_scope_names.proofs.HomesLemmas.{of-length, is_length, no-such-length, no-length}
use Rattle.bundle_scope_names.proofs.words.is_keyword.Goals as goal

abbrev all : List Text
all = keywords ++ strict_words ++ older_words

pub returns-in-2 : goal.returns-in-2
returns-in-2 c = c.is_one_of.ensures ∙ of-length c.args.sym.now 2 all c.in-2.is

pub returns-in-3 : goal.returns-in-3
returns-in-3 c = c.is_one_of-in-3.ensures ∙ of-length c.args.sym.now 3 all c.in-3.is

pub returns-in-4 : goal.returns-in-4
returns-in-4 c = c.is_one_of-in-4.ensures ∙ of-length c.args.sym.now 4 all c.in-4.is

pub returns-in-5 : goal.returns-in-5
returns-in-5 c = c.is_one_of-in-5.ensures ∙ of-length c.args.sym.now 5 all c.in-5.is

pub returns-in-6 : goal.returns-in-6
returns-in-6 c = c.is_one_of-in-6.ensures ∙ of-length c.args.sym.now 6 all c.in-6.is

pub returns-in-7 : goal.returns-in-7
returns-in-7 c = c.is_one_of-in-7.ensures ∙ of-length c.args.sym.now 7 all c.in-7.is

pub returns-in-8 : goal.returns-in-8
returns-in-8 c = c.is_one_of-in-8.ensures ∙ of-length c.args.sym.now 8 all c.in-8.is

pub returns-in-9 : goal.returns-in-9
returns-in-9 c = c.is_one_of-in-9.ensures ∙ of-length c.args.sym.now 9 all c.in-9.is

pub returns-in-10 : goal.returns-in-10
returns-in-10 c = c.is_one_of-in-10.ensures ∙ of-length c.args.sym.now 10 all c.in-10.is

pub returns-in-12 : goal.returns-in-12
returns-in-12 c = c.is_one_of-in-12.ensures ∙ of-length c.args.sym.now 12 all c.in-12.is

pub returns-in_default : goal.returns-in_default
returns-in_default c =
    let e2 : (2 == length c.args.sym.now) ≡ false = grind arith in
    let e3 : (3 == length c.args.sym.now) ≡ false = grind arith in
    let e4 : (4 == length c.args.sym.now) ≡ false = grind arith in
    let e5 : (5 == length c.args.sym.now) ≡ false = grind arith in
    let e6 : (6 == length c.args.sym.now) ≡ false = grind arith in
    let e7 : (7 == length c.args.sym.now) ≡ false = grind arith in
    let e8 : (8 == length c.args.sym.now) ≡ false = grind arith in
    let e9 : (9 == length c.args.sym.now) ≡ false = grind arith in
    let e10 : (10 == length c.args.sym.now) ≡ false = grind arith in
    let e12 : (12 == length c.args.sym.now) ≡ false = grind arith in
    sym (no-such-length is_length c.args.sym.now all refl (no-length (length c.args.sym.now) e2 e3 e4 e5 e6 e7 e8 e9 e10 e12))
