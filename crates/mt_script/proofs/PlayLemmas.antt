-- A script that has been played so far.
use Rattle.std.proofs.Common.{◌≡◌, ◌≢◌, ◌⊎◌, inl, inr, ℕ, ◌+◌, cond, List, [], ◌∷◌, ◌++◌, fold, refl, ap, subst, sym, ◌∙◌, arith, append_assoc, Option, None, Some, IfSome}
use Rattle.std.specs.Io.KnownBytes.{Appends}
use Rattle.std.proofs.KnownBytes.{Appends-nil, Appends-trans}
use Rattle.mt_promise.specs.History.{History}
use Rattle.mt_promise.specs.Legal.{Legal}
use Rattle.mt_promise.proofs.KeepLemmas.{keeps_promise}
use Rattle.mt_index.specs.Stands.{MachineView}
use Rattle.mt_script.specs.declared.fault.ScriptFault.{ScriptFault}
use Rattle.mt_script.specs.declared.fault.ScriptFault.TheVariants.{Read, Write, NoMemory}
use Rattle.mt_script.specs.Lines.{lines_of, line_text, HasNoFeed, LosesLine, LosesNoLine, ReadsLines}
use Rattle.mt_script.proofs.LineLemmas.{first_line}
use Rattle.mt_script.specs.Commands.{command_of}
use Rattle.mt_script.specs.Machine.{Leads, IsAsBefore, IsAt}
use Rattle.mt_script.specs.declared.command.Reply.{Reply}
use Rattle.mt_types.specs.declared.refusal.Refusal.{Refusal}
use Rattle.mt_types.specs.declared.refusal.Refusal.TheVariants.{NoMemory as WantOfMemory}
use Rattle.mt_script.specs.Script.{start_fault, reply_lines, output_of, is_bad, bad_lines, Answers, AnswersAll, Played, Broke}

pub append_none : {A : Type 0} (xs : List A) → xs ++ [] ≡ xs
append_none [] = refl
append_none (x ∷ xs) = ap (λ l. x ∷ l) (append_none xs)

output-push : (replies : List Reply) (reply : Reply) → output_of (replies ++ reply ∷ []) ≡ output_of replies ++ reply_lines reply
output-push [] reply = append_none (reply_lines reply)
output-push (r ∷ rs) reply = ap (λ l. reply_lines r ++ l) (output-push rs reply) ∙ sym (append_assoc (reply_lines r) (output_of rs) (reply_lines reply))

bad-push_from : (n : ℕ) (replies : List Reply) (reply : Reply) → fold (λ a x. a + cond (is_bad x) 1 0) n (replies ++ reply ∷ []) ≡ fold (λ a x. a + cond (is_bad x) 1 0) n replies + cond (is_bad reply) 1 0
bad-push_from n [] reply = refl
bad-push_from n (r ∷ rs) reply = bad-push_from (n + cond (is_bad r) 1 0) rs reply

bad-push : (replies : List Reply) (reply : Reply) → bad_lines (replies ++ reply ∷ []) ≡ bad_lines replies + bad_lines (reply ∷ [])
bad-push replies reply = let e = bad-push_from 0 replies reply in omega (arith, e)

pub went_whole : (line sent unsent : List ℕ) (a b : Option (List ℕ)) → line ≡ sent ++ unsent → Appends a b sent → unsent ≡ [] → Appends a b line
went_whole line sent unsent a b split went none = subst (Appends a b) (sym (split ∙ ap (λ l. sent ++ l) none ∙ append_none sent)) went

-- a text is what was given, which are these lines, and a rest: after a line feed, or at the end of all
pub record Gone (xs : List ℕ) (lines : List (List ℕ)) (given rest : List ℕ) : Type 0 where
  pub parts : xs ≡ given ++ rest
  pub lines_are : lines_of given ≡ lines
  pub closed : ((ys : List ℕ) → lines_of (given ++ ys) ≡ lines ++ lines_of ys) ⊎ (rest ≡ [])

gone_lines : (xs : List ℕ) (lines : List (List ℕ)) (given rest : List ℕ) → xs ≡ given ++ rest → lines_of given ≡ lines → ((ys : List ℕ) → lines_of (given ++ ys) ≡ lines ++ lines_of ys) ⊎ (rest ≡ [])
    → lines_of xs ≡ lines ++ lines_of rest
gone_lines xs lines given rest parts are (inl all) = ap lines_of parts ∙ all rest
gone_lines xs lines given rest parts are (inr none) =
    ap lines_of (parts ∙ ap (λ (l : List ℕ). given ++ l) none ∙ append_none given) ∙ are ∙ sym (append_none lines) ∙ ap (λ (l : List ℕ). lines ++ lines_of l) (sym none)

abbrev GoneMore : List ℕ → List (List ℕ) → List ℕ → List ℕ → Type 0
GoneMore xs lines line rest = (given : List ℕ) × Gone xs (lines ++ line ∷ []) given rest

gone_more : (xs : List ℕ) (lines : List (List ℕ)) (given ys line rest : List ℕ) → xs ≡ given ++ ys → ((zs : List ℕ) → lines_of (given ++ zs) ≡ lines ++ lines_of zs) ⊎ (ys ≡ [])
    → lines_of ys ≡ line ∷ lines_of rest → HasNoFeed line → (ys ≡ line_text line ++ rest) ⊎ ((ys ≡ line) × (line ≢ []) × (rest ≡ [])) → GoneMore xs lines line rest
gone_more xs lines given ys line rest parts (inr none) first feedless front = absurd (let none_of = ap lines_of none in cc)
gone_more xs lines given ys line rest parts (inl all) first feedless (inl front) = (
  given ++ line_text line,
  record {
    parts = parts ∙ ap (λ (l : List ℕ). given ++ l) front ∙ sym (append_assoc given (line_text line) rest);
    lines_are = all (line_text line) ∙ ap (λ (l : List (List ℕ)). lines ++ l) (first_line line [] feedless);
    closed = inl (λ (zs : List ℕ). ap lines_of (append_assoc given (line_text line) zs) ∙ all (line_text line ++ zs)
        ∙ ap (λ (l : List (List ℕ)). lines ++ l) (ap lines_of (append_assoc line (10 ∷ []) zs) ∙ first_line line zs feedless) ∙ sym (append_assoc lines (line ∷ []) (lines_of zs)));
  },
)
gone_more xs lines given ys line rest parts (inl all) first feedless (inr last) = (
  given ++ line,
  record {
    parts = parts ∙ ap (λ (l : List ℕ). given ++ l) last.0 ∙ sym (append_none (given ++ line)) ∙ ap (λ (l : List ℕ). (given ++ line) ++ l) (sym last.2);
    lines_are = all line ∙ ap (λ (l : List (List ℕ)). lines ++ l) (ap lines_of (sym last.0) ∙ first ∙ ap (λ (l : List ℕ). line ∷ lines_of l) last.2);
    closed = inr last.2;
  },
)

-- what the reader gave began with these lines, and what it still gives is the rest
abbrev pub Goes : Option (List ℕ) → Option (List ℕ) → List (List ℕ) → Type 0
Goes input now lines = IfSome input (λ xs. (given : List ℕ) × (rest : List ℕ) × (now ≡ Some rest) × Gone xs lines given rest)

pub Goes-start : (input : Option (List ℕ)) → Goes input input []
Goes-start None = tt
Goes-start (Some xs) = ([], xs, refl, record { parts = refl; lines_are = refl; closed = inl (λ (ys : List ℕ). refl) })

pub Goes-more : (input now next : Option (List ℕ)) (lines : List (List ℕ)) (line : List ℕ) → Goes input now lines → IfSome now (λ xs. LosesLine xs next (Some line)) → Goes input next (lines ++ line ∷ [])
Goes-more None now next lines line so_far lost = tt
Goes-more (Some xs) None next lines line so_far lost = absurd (cc so_far.2)
Goes-more (Some xs) (Some ys) next lines line so_far lost =
    let same : ys ≡ so_far.1 = cc so_far.2 in
    let gone : Gone xs lines so_far.0 ys = subst (Gone xs lines so_far.0) (sym same) so_far.3 in
    let more : GoneMore xs lines line lost.0 = gone_more xs lines so_far.0 ys line lost.0 gone.parts gone.closed lost.2 lost.3.0 lost.3.1 in
    (more.0, lost.0, lost.1, more.1)

Goes-lines : (input now : Option (List ℕ)) (lines : List (List ℕ)) → Goes input now lines → IfSome input (λ xs. (rest : List ℕ) × (now ≡ Some rest) × (lines_of xs ≡ lines ++ lines_of rest))
Goes-lines None now lines so_far = tt
Goes-lines (Some xs) now lines so_far = (so_far.1, so_far.2, gone_lines xs lines so_far.0 so_far.1 so_far.3.parts so_far.3.lines_are so_far.3.closed)

pub Goes-end : (input now next : Option (List ℕ)) (lines : List (List ℕ)) → Goes input now lines → IfSome now (λ xs. LosesLine xs next None) → IfSome input (λ xs. lines_of xs ≡ lines)
Goes-end None now next lines so_far lost = tt
Goes-end (Some xs) None next lines so_far lost = absurd (cc so_far.2)
Goes-end (Some xs) (Some ys) next lines so_far lost =
    let h = Goes-lines (Some xs) (Some ys) lines so_far in
    let same : ys ≡ h.0 = cc h.1 in
    h.2 ∙ ap (λ r. lines ++ lines_of r) (sym same) ∙ ap (λ l. lines ++ l) lost ∙ append_none lines

pub Goes-front : (input now : Option (List ℕ)) (lines : List (List ℕ)) → Goes input now lines → (more : List (List ℕ)) × IfSome input (λ xs. lines_of xs ≡ lines ++ more)
Goes-front None now lines so_far = ([], tt)
Goes-front (Some xs) now lines so_far = let h = Goes-lines (Some xs) now lines so_far in (lines_of h.0, h.2)

-- a read failed after these lines
pub Goes-cut : (input now unread : Option (List ℕ)) (lines : List (List ℕ)) → Goes input now lines → IfSome now (LosesNoLine unread) → IfSome input (ReadsLines lines unread)
Goes-cut None now unread lines so_far cut = tt
Goes-cut (Some xs) None unread lines so_far cut = absurd (cc so_far.2)
Goes-cut (Some xs) (Some ys) unread lines so_far cut =
    let same : ys ≡ so_far.1 = cc so_far.2 in (
      so_far.0,
      cut.0,
      cut.1,
      cut.2,
      so_far.3.parts ∙ ap (λ (l : List ℕ). so_far.0 ++ l) (sym same ∙ cut.3) ∙ sym (append_assoc so_far.0 cut.0 cut.1),
      so_far.3.lines_are,
      cut.4,
    )

no_read : (fault : ScriptFault) → (fault ≡ Write) ⊎ (fault ≡ NoMemory) → fault ≡ Read → ⊥
no_read fault (inl e) read = cc
no_read fault (inr e) read = cc

-- one line more
AnswersAll-push : (C keep : ℕ) (past between h : History) (lines : List (List ℕ)) (replies : List Reply) (line : List ℕ) (reply : Reply)
    → AnswersAll C keep past lines replies between → Answers C keep (command_of line) between reply h → AnswersAll C keep past (lines ++ line ∷ []) (replies ++ reply ∷ []) h
AnswersAll-push C keep past between h [] [] line reply all one = (h, subst (λ (p : History). Answers C keep (command_of line) p reply h) all one, refl)
AnswersAll-push C keep past between h [] (r ∷ rs) line reply all one = absurd all
AnswersAll-push C keep past between h (l ∷ ls) [] line reply all one = absurd all
AnswersAll-push C keep past between h (l ∷ ls) (r ∷ rs) line reply all one = (all.0, all.1, AnswersAll-push C keep all.0 between h ls rs line reply all.2 one)

-- lines that were answered so far on an empty index of C columns, which left the machine s
pub record Playing (C keep : ℕ) (input old : Option (List ℕ)) (bad : ℕ) (s : MachineView) (now new : Option (List ℕ)) : Type 0 where
  pub lines : List (List ℕ)
  pub replies : List Reply
  pub h : History
  pub read : Goes input now lines
  pub answered : AnswersAll C keep [] lines replies h
  pub stands : IsAt s h
  pub columns : s.columns ≡ C
  pub keeps : s.log.retention ≡ keep
  pub written : Appends old new (output_of replies)
  pub counted : bad ≡ bad_lines replies

legal_of : {C keep : ℕ} {input old : Option (List ℕ)} {bad : ℕ} {s : MachineView} {now new : Option (List ℕ)} → (p : Playing C keep input old bad s now new) → Legal C p.h
legal_of p = subst (λ n. Legal n p.h) p.columns p.stands.0.legal

pub Playing-none : (s : MachineView) (input old : Option (List ℕ)) → IsAt s [] → Playing s.columns s.log.retention input old 0 s input old
Playing-none s input old stands = record {
  lines = [];
  replies = [];
  h = [];
  read = Goes-start input;
  answered = refl;
  stands = stands;
  columns = refl;
  keeps = refl;
  written = Appends-nil old;
  counted = refl;
}

-- a line more is read and answered
answered_more : {C keep : ℕ} {input old : Option (List ℕ)} {bad : ℕ} {s : MachineView} {now new : Option (List ℕ)} (t : MachineView) (next : Option (List ℕ)) (line : List ℕ) (reply : Reply) → (p : Playing C keep input old bad s now new)
    → Leads s (λ past h. Answers s.columns s.log.retention (command_of line) past reply h) t → IsAsBefore s t
    → (h : History) × AnswersAll C keep [] (p.lines ++ line ∷ []) (p.replies ++ reply ∷ []) h × IsAt t h × Legal C h
answered_more {C} {keep} {input} {old} {bad} {s} t next line reply p leads as_before =
    let led = leads p.h p.stands in
    let one : Answers C keep (command_of line) p.h reply led.0 =
    subst (λ (k : ℕ). Answers C k (command_of line) p.h reply led.0) p.keeps (subst (λ (n : ℕ). Answers n s.log.retention (command_of line) p.h reply led.0) p.columns led.1) in
    (led.0, AnswersAll-push C keep [] p.h led.0 p.lines p.replies line reply p.answered one, led.2, subst (λ n. Legal n led.0) (as_before.0 ∙ p.columns) led.2.0.legal)

pub Playing-more : {C keep : ℕ} {input old : Option (List ℕ)} {bad : ℕ} {s : MachineView} {now new : Option (List ℕ)} (t : MachineView) (next out : Option (List ℕ)) (more : ℕ) (line : List ℕ) (reply : Reply) → (p : Playing C keep input old bad s now new)
    → IfSome now (λ xs. LosesLine xs next (Some line)) → Leads s (λ past h. Answers s.columns s.log.retention (command_of line) past reply h) t → IsAsBefore s t
    → Appends new out (reply_lines reply) → more ≡ bad + bad_lines (reply ∷ []) → Playing C keep input old more t next out
Playing-more {C} {keep} {input} {old} {bad} {s} {now} {new} t next out more line reply p lost leads as_before sent counted =
    let one = answered_more t next line reply p leads as_before in record {
      lines = p.lines ++ line ∷ [];
      replies = p.replies ++ reply ∷ [];
      h = one.0;
      read = Goes-more input now next p.lines line p.read lost;
      answered = one.1;
      stands = one.2;
      columns = as_before.0 ∙ p.columns;
      keeps = as_before.1 ∙ p.keeps;
      written = subst (Appends old out) (sym (output-push p.replies reply)) (Appends-trans old new out (output_of p.replies) (reply_lines reply) p.written sent);
      counted = counted ∙ ap (λ n. n + bad_lines (reply ∷ [])) p.counted ∙ sym (bad-push p.replies reply);
    }

pub Played-end : {C keep : ℕ} {input old : Option (List ℕ)} {bad : ℕ} {s : MachineView} {now new : Option (List ℕ)} (next : Option (List ℕ)) → Playing C keep input old bad s now new
    → IfSome now (λ xs. LosesLine xs next None) → Played C keep input old bad new
Played-end {C} {keep} {input} {old} {bad} {s} {now} {new} next p lost = record {
  lines = p.lines;
  replies = p.replies;
  h = p.h;
  read = Goes-end input now next p.lines p.read lost;
  answered = p.answered;
  legal = legal_of p;
  promise = keeps_promise C p.h (legal_of p);
  written = p.written;
  counted = p.counted;
}

pub Broke-between : (fault : ScriptFault) (unread : Option (List ℕ)) {C keep : ℕ} {input old : Option (List ℕ)} {bad : ℕ} {s : MachineView} {now new : Option (List ℕ)} → Playing C keep input old bad s now new
    → (fault ≡ Read → IfSome now (LosesNoLine unread)) → Broke C keep fault input unread old new
Broke-between fault unread {C} {keep} {input} {old} {bad} {s} {now} {new} p cut =
    let front : (more : List (List ℕ)) × IfSome input (λ xs. lines_of xs ≡ p.lines ++ more) = Goes-front input now p.lines p.read in record {
      lines = p.lines;
      more = front.0;
      replies = p.replies;
      h = p.h;
      read = front.1;
      answered = p.answered;
      legal = legal_of p;
      promise = keeps_promise C p.h (legal_of p);
      sent = output_of p.replies;
      unsent = [];
      written = p.written;
      front = sym (append_none (output_of p.replies));
      whole = λ read. refl;
      none_lost = λ read. Goes-cut input now unread p.lines p.read (cut read);
    }

pub Broke-sending : (fault : ScriptFault) (unread : Option (List ℕ)) {C keep : ℕ} {input old : Option (List ℕ)} {bad : ℕ} {s : MachineView} {now new : Option (List ℕ)} (t : MachineView) (next out : Option (List ℕ)) (line : List ℕ) (reply : Reply) (sent unsent : List ℕ)
    → (p : Playing C keep input old bad s now new) → IfSome now (λ xs. LosesLine xs next (Some line)) → Leads s (λ past h. Answers s.columns s.log.retention (command_of line) past reply h) t → IsAsBefore s t
    → reply_lines reply ≡ sent ++ unsent → Appends new out sent → (fault ≡ Write) ⊎ (fault ≡ NoMemory) → Broke C keep fault input unread old out
Broke-sending fault unread {C} {keep} {input} {old} {bad} {s} {now} {new} t next out line reply sent unsent p lost leads as_before split went cause =
    let one = answered_more t next line reply p leads as_before in
    let front : (more : List (List ℕ)) × IfSome input (λ xs. lines_of xs ≡ (p.lines ++ line ∷ []) ++ more) =
    Goes-front input next (p.lines ++ line ∷ []) (Goes-more input now next p.lines line p.read lost) in record {
      lines = p.lines ++ line ∷ [];
      more = front.0;
      replies = p.replies ++ reply ∷ [];
      h = one.0;
      read = front.1;
      answered = one.1;
      legal = one.3;
      promise = keeps_promise C one.0 one.3;
      sent = output_of p.replies ++ sent;
      unsent = unsent;
      written = Appends-trans old new out (output_of p.replies) sent p.written went;
      front = output-push p.replies reply ∙ ap (λ l. output_of p.replies ++ l) split ∙ sym (append_assoc (output_of p.replies) sent unsent);
      whole = λ read. absurd (no_read fault cause read);
      none_lost = λ read. absurd (no_read fault cause read);
    }

-- nothing was read or written
pub Broke-none : (fault : ScriptFault) (C keep : ℕ) (input unread old : Option (List ℕ)) → (fault ≡ Read → ⊥) → Broke C keep fault input unread old old
Broke-none fault C keep input unread old other =
    let front : (more : List (List ℕ)) × IfSome input (λ xs. lines_of xs ≡ [] ++ more) = Goes-front input input [] (Goes-start input) in record {
      lines = [];
      more = front.0;
      replies = [];
      h = [];
      read = front.1;
      answered = refl;
      legal = tt;
      promise = keeps_promise C [] tt;
      sent = [];
      unsent = [];
      written = Appends-nil old;
      front = refl;
      whole = λ read. refl;
      none_lost = λ read. absurd (other read);
    }

pub start_not_read : (refusal : Refusal) → start_fault refusal ≡ Read → ⊥
start_not_read WantOfMemory read = cc
start_not_read limit read = cc
