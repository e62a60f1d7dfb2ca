-- What is promised of many calls of one bundler, one after the other, the refused ones among them.
use Rattle.std.specs.Prelude.{List, [], ◌∷◌, ◌++◌, flat_map}
use Rattle.bundle_tree_names.specs.FileName.{Name}
use Rattle.bundle_rules.specs.Entries.{Settings}
use Rattle.bundle_rules.specs.Faults.{Parties}
use Rattle.bundle_rules.specs.Headline.{Answer, IsHeadline}
use Rattle.bundle_rules.specs.Judging.{Entry, Grows, files_of}
use Rattle.bundle_rules.specs.Kept.{Kept, Stays}

-- a call: its entries, and what it answers
pub record AnsweredCall : Type 0 where
  pub entries : List Entry
  pub answer : Answer

-- one call more
abbrev pub and_call : List AnsweredCall → List Entry → Answer → List AnsweredCall
and_call calls entries answer = calls ++ (record { entries = entries; answer = answer }) ∷ []

-- the files of the entries of all these calls
abbrev pub files_of_all : List AnsweredCall → List Name
files_of_all calls = flat_map (λ call. files_of call.entries) calls

-- `AreAnswered parties settings old calls new`: calls of one bundler, one after the other: each
-- answer, a refusal too, is right for what was kept before it, and the next call begins with what
-- is kept then
pub data AreAnswered (parties : Parties) (settings : Settings) :
    Kept → List AnsweredCall → Kept → Type 0 where
  none : {kept : Kept} → AreAnswered parties settings kept [] kept
  next : {old new last : Kept} {rest : List AnsweredCall} (call : AnsweredCall) →
      IsHeadline parties settings call.entries old call.answer new →
      AreAnswered parties settings new rest last →
      AreAnswered parties settings old (call ∷ rest) last

-- MANY CALLS: each is answered right; and over all of them what is kept only grows, by answers of
-- the parties to requests that none of the calls had an answer to: of a file one module is taken,
-- and of a request one file, in whichever calls
pub record IsHeadlineOfCalls (parties : Parties) (settings : Settings) (old : Kept)
    (calls : List AnsweredCall) (new : Kept) : Type 0 where
  pub answered : AreAnswered parties settings old calls new
  pub grows : Grows parties.answers settings (files_of_all calls) old new
  pub stays : Stays old new
