-- The records of a log's entries: with one entry more, and of one entry.
use Rattle.std.proofs.Common.{◌≡◌, ℕ, ◌<◌, ◌+◌, ◌∙◌, ◌++◌, ◌∷◌, List, [], length, take, get_or, ap, sym, refl}
use Rattle.std.proofs.lemmas.List.{append_assoc, append-nil, take_more}
use Rattle.mt_frame.specs.declared.entry.Commits.{Commits}
use Rattle.mt_frame.specs.declared.entry.Entry.{Entry}
use Rattle.mt_frame.specs.declared.entry.Entry.TheVariants.{Header, Commits as Group, Rows, Sealed, Closed}
use Rattle.mt_frame.specs.declared.entry.Record.{Record}
use Rattle.mt_replay.specs.Replay.{records_in}

pub take_item : {A : Type 0} (n : ℕ) (xs : List A) (x : A) → n < length xs → x ≡ get_or xs n x → take (n + 1) xs ≡ take n xs ++ (x ∷ [])
take_item n xs x less is = take_more xs n x less ∙ ap (λ y. take n xs ++ (y ∷ [])) (sym is)

pub records-append : (entries more : List Entry) → records_in (entries ++ more) ≡ records_in entries ++ records_in more
records-append [] more = refl
records-append (Header header ∷ entries) more = records-append entries more
records-append (Group commits ∷ entries) more = ap (λ (rs : List Record). commits.records ++ rs) (records-append entries more) ∙ sym (append_assoc commits.records (records_in entries) (records_in more))
records-append (Rows part ∷ entries) more = records-append entries more
records-append (Sealed count ∷ entries) more = records-append entries more
records-append (Closed number ∷ entries) more = records-append entries more

-- the records of one entry
pub of_commits : (entry : Entry) (commits : Commits) → entry ≡ Group commits → records_in (entry ∷ []) ≡ commits.records
of_commits entry commits is = ap (λ (e : Entry). records_in (e ∷ [])) is ∙ append-nil commits.records

pub of_others : (entry : Entry) → ((commits : Commits) → entry ≡ Group commits → ⊥) → records_in (entry ∷ []) ≡ []
of_others (Header header) other = refl
of_others (Group commits) other = absurd (other commits refl)
of_others (Rows part) other = refl
of_others (Sealed count) other = refl
of_others (Closed number) other = refl
