-- A build, read off its fields, and what they keep.
use Rattle.std.specs.Prelude.{ℕ, ◌≡◌, IsTrue, List, []}
use Rattle.mt_types.specs.Views.{is_before}
use Rattle.mt_works.specs.Build.{BuildView}
use Rattle.mt_works.specs.History.{is_within}
use Rattle.mt_works.specs.declared.build.TheConstants.{SCAN_LIMIT}
use Rattle.mt_works.specs.declared.build.Build.TheInside.{Inside}

abbrev pub build_of : Inside → BuildView
build_of build = record { prefix = build.scan.prefix; at = build.scan.at; state = build.state }

-- between two visits the scan has taken nothing; it is to show each column; and no key of the view is at the end or
-- after it
pub record IsBuild (build : Inside) : Type 0 where
  pub taken : build.scan.taken ≡ []
  pub asked : build.scan.asked ≡ []
  pub limit : build.scan.limit ≡ SCAN_LIMIT
  pub ends : (key : List ℕ) → IsTrue (is_within build.state.spec key) → IsTrue (is_before key build.end)
