-- What the headers of two files say of their logs.
use Rattle.std.proofs.Common.{◌≡◌, ◌∙◌, ◌≤◌, ◌<◌, ◌+◌, ◌++◌, ℕ, List, length, get_or, drop, refl, sym, ap, subst, arith, append_assoc}
use Rattle.std.specs.Prelude.{min, Option, Some, None}
use Rattle.std.proofs.lemmas.List.{length-append}
use Rattle.std.proofs.lemmas.List.Prefix.{front_from_reads, front_reads}
use Rattle.sqlite_disk.specs.Disk.{Holds}
use Rattle.mt_frame.specs.declared.entry.LogHeader.{LogHeader}
use Rattle.mt_frame.specs.Spelling.{frames_of}
use Rattle.mt_journal.specs.Laws.{HeadersAreShort}
use Rattle.mt_journal.specs.Log.{header_frame}
use Rattle.mt_folder.specs.declared.log.LogRead.{LogRead}
use Rattle.mt_folder.specs.declared.looking.TheConstants.{HEADER}
use Rattle.mt_folder.specs.Files.{HasNone, HeaderOf, IsNewest, Says, Spells}
use Rattle.mt_folder.specs.Sides.{IsNoNewer}

-- a file without a header has no log
pub no_log : (C : ℕ) (bytes : List ℕ) (found : Option LogHeader) → HeaderOf C bytes found → found ≡ None → HasNone C bytes
no_log C bytes found only none header spells =
    let is : ◌≡◌ {A = Option LogHeader} None (Some header) = sym none ∙ only header spells in
    cc

-- if the newer file has none, the other one has none
pub none_older : (other newer : Option LogHeader) → newer ≡ None → IsNoNewer other newer → other ≡ None
none_older None newer none order = refl
none_older (Some header) newer none order = absurd (subst (IsNoNewer (Some header)) none order)

-- the log that was read of a file has its header
pub header_of : (C : ℕ) (bytes : List ℕ) (found : Option LogHeader) (log : LogRead) → HeaderOf C bytes found → Says C bytes log → found ≡ Some log.header
header_of C bytes found log only says = only log.header (record { entries = log.entries.items; log = says.spells; columns = says.columns })

-- no log of the other file is newer
pub newest_of : (C : ℕ) (others : List ℕ) (other newer : Option LogHeader) (log : LogRead) → newer ≡ Some log.header → HeaderOf C others other → IsNoNewer other newer → IsNewest C log others
newest_of C others other newer log is only order header spells =
    let first = subst (λ (o : Option LogHeader). IsNoNewer o newer) (only header spells) order in
    subst (IsNoNewer (Some header)) is first

-- the first bytes of a file with a log begin with the frame of its header
module _ (short : HeadersAreShort) (C : ℕ) (seen front : List ℕ) (header : LogHeader) (spells : Spells C seen header) (long : length front ≡ min (length seen) HEADER) where
  abbrev after_header : List ℕ
  after_header = frames_of header.generation (length (header_frame header)) spells.entries ++ spells.log.rest

  parts : seen ≡ header_frame header ++ after_header
  parts = spells.log.parts ∙ append_assoc (header_frame header) (frames_of header.generation (length (header_frame header)) spells.entries) spells.log.rest

  holds_header : length (header_frame header) ≤ length front
  holds_header = omega (arith, long, ap length parts, length-append (header_frame header) after_header, (short header).1)

  pub some : 0 < length front
  some = omega (arith, holds_header, (short header).0)

  pub begins : (0 < length front → Holds seen 0 front) → front ≡ header_frame header ++ drop (length (header_frame header)) front
  begins held =
      front_from_reads 0 front (header_frame header) holds_header
      (λ i lt.
      let place : i ≡ 0 + i = omega arith in
      let here : get_or seen i 0 ≡ get_or front i 0 = ap (λ (k : ℕ). get_or seen k 0) place ∙ (held some).each i (omega (arith, lt, holds_header)) in
      sym here ∙ front_reads 0 seen (header_frame header) after_header parts i lt)
