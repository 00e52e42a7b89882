-- What a contract sees of a `Version`, and how its 128 bits lie.
use Rattle.std.specs.Prelude.{◌≡◌, ◌==◌, ℕ, ◌+◌, ◌*◌, ◌/◌, ◌%◌, ◌^◌, ◌<◌, Bool, ◌||◌, true, false}
use Rattle.std.specs.Int.{bit_at}
use Rattle.mt_word.specs.declared.version_word.TheConstants.{MAX_INSERTS, MAX_SPLITS}

-- the flags of a node, and how often keys were inserted into it and it was split
pub record VersionView : Type 0 where
  pub locked : Bool
  pub inserting : Bool
  pub splitting : Bool
  pub deleted : Bool
  pub border : Bool
  pub vinsert : ℕ
  pub vsplit : ℕ

-- both counters fit their bits
pub record IsVersion (v : VersionView) : Type 0 where
  pub vinsert_fits : v.vinsert < 2 ^ 56
  pub vsplit_fits : v.vsplit < 2 ^ 64

-- keys are being inserted into the node, or it is being split
abbrev pub is_flagged : VersionView → Bool
is_flagged version = version.inserting || version.splitting

-- a flag that is set has a counter that can be raised
pub record IsUnspent (v : VersionView) : Type 0 where
  pub inserts : v.inserting ≡ true → v.vinsert < MAX_INSERTS
  pub splits : v.splitting ≡ true → v.vsplit < MAX_SPLITS

-- the bit of a flag
abbrev pub number_of : Bool → ℕ
number_of false = 0
number_of true = 1

-- no keys are being inserted any more: if some were, the counter of insertions is raised
abbrev pub inserted : VersionView → VersionView
inserted v = record v { inserting = false; vinsert = v.vinsert + number_of v.inserting }

-- the node is not being split any more: if it was, the counter of splits is raised
abbrev pub split : VersionView → VersionView
split v = record v { splitting = false; vsplit = v.vsplit + number_of v.splitting }

-- the node is unlocked after a change
abbrev pub unlocked : VersionView → VersionView
unlocked v = record (split (inserted v)) { locked = false }

-- bits 0 to 4 are the flags, 5 to 7 are zero, 8 to 63 are vinsert, and 64 to 127 are vsplit
abbrev pub word_of_version : VersionView → ℕ
word_of_version v =
    number_of v.locked + 2 * number_of v.inserting + 4 * number_of v.splitting + 8 * number_of v.deleted
    + 16 * number_of v.border + 2 ^ 8 * v.vinsert + 2 ^ 64 * v.vsplit

-- whether bit k is set
abbrev pub flag_at : ℕ → ℕ → Bool
flag_at word k = bit_at word k == 1

-- the version in a word
abbrev pub version_of_word : ℕ → VersionView
version_of_word word = record {
  locked = flag_at word 0;
  inserting = flag_at word 1;
  splitting = flag_at word 2;
  deleted = flag_at word 3;
  border = flag_at word 4;
  vinsert = word / 2 ^ 8 % 2 ^ 56;
  vsplit = word / 2 ^ 64;
}

-- a word of 128 bits whose bits 5 to 7 are zero
pub record IsVersionWord (word : ℕ) : Type 0 where
  pub fits : word < 2 ^ 128
  pub spare : word / 2 ^ 5 % 2 ^ 3 ≡ 0
