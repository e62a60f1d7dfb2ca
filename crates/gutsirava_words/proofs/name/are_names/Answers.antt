-- Each text between dots was tried, up to one that is no name.
use Rattle.std.proofs.Common.{rules, tests, ◌≡◌, chars, lit<}
use Rattle.std.proofs.lemmas.Iterator.Search.{all_from_yields_List}
use Rattle.std.proofs.lemmas.Iterator.Splits.{YieldsList-from_str_split}
use Rattle.gutsirava_words.specs.Variable as names
use Rattle.gutsirava_words.proofs.name.are_names.Goals as goal

pub returns : goal.returns
returns c =
    all_from_yields_List (λ name. names.is_name (chars name)) _ _ _ c.all.ensures.ran
    (YieldsList-from_str_split 46 c.args.text.now (lit< tt) (cc) (cc) (cc))
    (λ x b q k. search (rules, tests))
