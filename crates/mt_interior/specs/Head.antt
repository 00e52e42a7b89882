-- What a contract sees of a `Head`, and what each call makes of it.
use Rattle.std.specs.Prelude.{◌≡◌, ℕ, ◌≤◌, Bool, true, false}
use Rattle.mt_types.specs.declared.limits.TheConstants.{MAX_LEVEL}
use Rattle.mt_types.specs.declared.numbers.NodeNo.{NodeNo}
use Rattle.mt_word.specs.Version.{VersionView, IsVersion}

-- the head of a layer: its version, the root of the layer's tree, and the root's level
pub record HeadView : Type 0 where
  pub version : VersionView
  pub root : NodeNo
  pub level : ℕ

-- what is seen of a head with these fields
abbrev pub head_view : VersionView → NodeNo → ℕ → HeadView
head_view version root level = record { version = version; root = root; level = level }

-- the version of a new head or interior node, locked or not
abbrev pub new_inner_version : Bool → VersionView
new_inner_version locked = record {
  locked = locked;
  inserting = false;
  splitting = false;
  deleted = false;
  border = false;
  vinsert = 0;
  vsplit = 0;
}

-- a head that names this root
abbrev pub new_head : NodeNo → ℕ → Bool → HeadView
new_head root level locked = record { version = new_inner_version locked; root = root; level = level }

-- the head once it names another root
abbrev pub with_root : HeadView → NodeNo → ℕ → HeadView
with_root h root level = record h { root = root; level = level }

abbrev pub with_lock : HeadView → Bool → HeadView
with_lock h locked = record h { version = record h.version { locked = locked } }

abbrev pub with_deleted : HeadView → HeadView
with_deleted h = record h { version = record h.version { deleted = true } }

-- what holds of every head
pub record IsHead (h : HeadView) : Type 0 where
  pub most : h.level ≤ MAX_LEVEL
  pub inner : h.version.border ≡ false
  pub counters : IsVersion h.version
