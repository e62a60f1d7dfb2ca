-- One call more of a bundler, behind many.
use Rattle.std.proofs.Common.{List, [], ◌∷◌, ◌++◌, Contains, inl, inr}
use Rattle.std.proofs.lemmas.List.Elements.{Contains-append_left, Contains-append_right}
use Rattle.bundle_tree_names.specs.FileName.{Name}
use Rattle.bundle_rules.specs.Entries.{Settings}
use Rattle.bundle_rules.specs.Faults.{Parties}
use Rattle.bundle_rules.specs.Headline.{Answer, IsHeadline}
use Rattle.bundle_rules.specs.Judging as j
use Rattle.bundle_rules.specs.Judging.{Entry, Grows, files_of}
use Rattle.bundle_rules.specs.Kept.{Answers, Kept}
use Rattle.bundle_rules.proofs.KeptLemmas.{stays}
use Rattle.bundler_call.specs.Many.{AnsweredCall, AreAnswered, IsHeadlineOfCalls, and_call, files_of_all, next, none}
use Rattle.bundler_call.proofs.Growing.{grows_trans}

-- more files may be those of entries
grows_among : (answers : Answers) (settings : Settings) (few all : List Name) →
    ((file : Name) → Contains few file → Contains all file) → (old new : Kept) →
    Grows answers settings few old new → Grows answers settings all old new
grows_among answers settings few all among old new j.same = j.same
grows_among answers settings few all among old new (j.met file not_met room (inl asked) rest) =
    j.met file not_met room (inl (among file asked)) (grows_among answers settings few all among _ new rest)
grows_among answers settings few all among old new (j.met file not_met room (inr led) rest) =
    j.met file not_met room (inr led) (grows_among answers settings few all among _ new rest)
grows_among answers settings few all among old new (j.Grows.loaded file answer there not_kept room may rest) =
    j.Grows.loaded file answer there not_kept room may (grows_among answers settings few all among _ new rest)
grows_among answers settings few all among old new (j.Grows.resolved asked asking file there its requested not_kept may rest) =
    j.Grows.resolved asked asking file there its requested not_kept may (grows_among answers settings few all among _ new rest)

module _ (parties : Parties) (settings : Settings) where
  -- over all calls what is kept grows by answers to what they ask
  calls_grow : {old new : Kept} {calls : List AnsweredCall} → AreAnswered parties settings old calls new →
      Grows parties.answers settings (files_of_all calls) old new
  calls_grow none = j.same
  calls_grow (next {old = old} {new = mid} {last = new} {rest = rest} call headline more) =
      let its = files_of call.entries in
      let others = files_of_all rest in
      grows_trans parties.answers settings (its ++ others) old mid new
      (grows_among parties.answers settings its (its ++ others) (Contains-append_left its others) old mid headline.grows)
      (grows_among parties.answers settings others (its ++ others) (Contains-append_right its others) mid new (calls_grow more))

  -- one call more
  one_call_more : {old mid new : Kept} {calls : List AnsweredCall} (call : AnsweredCall) →
      AreAnswered parties settings old calls mid →
      IsHeadline parties settings call.entries mid call.answer new →
      AreAnswered parties settings old (calls ++ call ∷ []) new
  one_call_more call none headline = next call headline none
  one_call_more call (next first right more) headline = next first right (one_call_more call more headline)

  all_answered : {old new : Kept} {calls : List AnsweredCall} → AreAnswered parties settings old calls new →
      IsHeadlineOfCalls parties settings old calls new
  all_answered {old = old} {new = new} {calls = calls} answered =
      let grows = calls_grow answered in
      record {
        answered = answered;
        grows = grows;
        stays = stays parties.answers settings (files_of_all calls) old new grows;
      }

-- where many calls are answered right, and one more is, all are
pub with_call : {parties : Parties} {settings : Settings} {first old new : Kept}
    {calls : List AnsweredCall} {entries : List Entry} {answer : Answer} →
    IsHeadline parties settings entries old answer new →
    AreAnswered parties settings first calls old →
    IsHeadlineOfCalls parties settings first (and_call calls entries answer) new
with_call {parties = parties} {settings = settings} {entries = entries} {answer = answer} headline many =
    all_answered parties settings
    (one_call_more parties settings (record { entries = entries; answer = answer }) many headline)
