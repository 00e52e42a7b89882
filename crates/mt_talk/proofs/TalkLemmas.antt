-- A list of calls of a session, from its begin.
use Rattle.std.proofs.Common.{◌≡◌, ℕ, List, [], ◌∷◌, ◌++◌, ap, sym, ◌∙◌, append_assoc, append-nil}
use Rattle.std.specs.List.{AllByRecursion}
use Rattle.mt_wire.specs.Frames.{RequestsFit, request_frame, reply_frame}
use Rattle.mt_talk.specs.Laws.{Talk, Step, Came, Took, Went, Lead, came, went, asked, told, requests_of, replies_of, TalksAreStreams}

input : (v w : Talk) (steps : List Step) → Lead v steps w → v.bytes ++ came steps ≡ requests_of (asked steps) ++ w.bytes
input v w [] lead = append-nil v.bytes ∙ ap (λ (t : Talk). t.bytes) (sym lead)
input v w (Came piece ∷ steps) lead =
    sym (append_assoc v.bytes piece (came steps)) ∙ ap (λ (l : List ℕ). l ++ came steps) (sym lead.1.0) ∙ input lead.0 w steps lead.2
input v w (Took frame reply ∷ steps) lead =
    ap (λ (l : List ℕ). l ++ came steps) lead.1.1 ∙ append_assoc (request_frame frame) lead.0.bytes (came steps)
    ∙ ap (λ (l : List ℕ). request_frame frame ++ l) (input lead.0 w steps lead.2)
    ∙ sym (append_assoc (request_frame frame) (requests_of (asked steps)) w.bytes)
input v w (Went bytes ∷ steps) lead =
    ap (λ (l : List ℕ). l ++ came steps) (sym lead.1.1) ∙ input lead.0 w steps lead.2

pub output : (v w : Talk) (steps : List Step) → Lead v steps w → v.output ++ replies_of (told steps) ≡ went steps ++ w.output
output v w [] lead = append-nil v.output ∙ ap (λ (t : Talk). t.output) (sym lead)
output v w (Came piece ∷ steps) lead =
    ap (λ (l : List ℕ). l ++ replies_of (told steps)) (sym lead.1.1) ∙ output lead.0 w steps lead.2
output v w (Took frame reply ∷ steps) lead =
    sym (append_assoc v.output (reply_frame reply) (replies_of (told steps)))
    ∙ ap (λ (l : List ℕ). l ++ replies_of (told steps)) (sym lead.1.2) ∙ output lead.0 w steps lead.2
output v w (Went bytes ∷ steps) lead =
    ap (λ (l : List ℕ). l ++ replies_of (told steps)) lead.1.0 ∙ append_assoc bytes lead.0.output (replies_of (told steps))
    ∙ ap (λ (l : List ℕ). bytes ++ l) (output lead.0 w steps lead.2)
    ∙ sym (append_assoc bytes (went steps) w.output)

fits : (v w : Talk) (steps : List Step) → Lead v steps w → AllByRecursion RequestsFit (asked steps)
fits v w [] lead = tt
fits v w (Came piece ∷ steps) lead = fits lead.0 w steps lead.2
fits v w (Took frame reply ∷ steps) lead = (lead.1.0, fits lead.0 w steps lead.2)
fits v w (Went bytes ∷ steps) lead = fits lead.0 w steps lead.2

pub talks_are_streams : TalksAreStreams
talks_are_streams w steps lead =
    let start : Talk = record { bytes = []; output = [] } in
    (input start w steps lead, output start w steps lead, fits start w steps lead)
