-- What some lines say, and how a text is cut into lines and replies are put together.
use Rattle.std.proofs.Common.{◌≡◌, ◌++◌, [], ◌∷◌, Some, None, refl}
use Rattle.std.specs.Prelude.{codes}
use Rattle.hex.specs.Hex.{decode_pairs}
use Rattle.mt_types.specs.declared.event.Request.TheVariants.{Get, Put, PutIf, Remove, Range, Tidy, Build}
use Rattle.mt_types.specs.declared.view.ViewSpec.TheVariants.{Range as RangeOf, Prefix as PrefixOf}
use Rattle.mt_types.specs.declared.view.RowTest.TheVariants.{Any, Equals, AtLeast}
use Rattle.mt_types.specs.declared.event.Event.TheVariants.{Begin, Step, ViewRead, Advance}
use Rattle.mt_script.specs.declared.command.Command.TheVariants.{Once, Finish, Alone, Feed, Read, Len}
use Rattle.mt_reads.specs.declared.quiet.QuietRead.TheVariants.{Gets, Count}
use Rattle.mt_script.specs.Reads.{count_of, gets_of, read_of}
use Rattle.mt_types.specs.declared.event.Outcome.TheVariants.{Moved}
use Rattle.mt_script.specs.declared.command.Reply.TheVariants.{Bad, Came}
use Rattle.mt_script.specs.Lines.{lines_of}
use Rattle.mt_script.specs.Script.{output_of, bad_lines}
use Rattle.mt_script.specs.Commands.{command_of, long_command_of, view_command_of, begin_of, step_of, finish_of, view_read_of, alone_of, feed_of}
use Rattle.mt_script.specs.Reading.{request_of, upkeep_of, get_of, put_of, put_if_of, remove_of, range_of, tidy_of, build_of, spec_of, keys_of, prefix_of, end_of, test_of, column_test_of, equals_of, at_least_of, columns_of, set_of, sets_of}

steps : command_of (codes "step 007") ≡ Some (Once (Step (record { 0 = 7 })))
unfolding command_of long_command_of step_of
steps = refl

finishes : command_of (codes "finish 18446744073709551615") ≡ Some (Finish (record { 0 = 18446744073709551615 }))
unfolding command_of long_command_of finish_of
finishes = refl

too_large : command_of (codes "step 18446744073709551616") ≡ None
unfolding command_of long_command_of step_of
too_large = refl

gets : command_of (codes "begin 1 get - all") ≡ Some (Once (Begin (record { 0 = 1 }) (Get [] [])))
unfolding command_of long_command_of begin_of request_of get_of columns_of
gets = refl

puts : command_of (codes "begin 2 put 6Aff 0=-,2=0a") ≡ Some (Once (Begin (record { 0 = 2 }) (Put (106 ∷ 255 ∷ []) ((0, []) ∷ (2, 10 ∷ []) ∷ []))))
unfolding command_of long_command_of begin_of request_of put_of sets_of set_of decode_pairs
puts = refl

puts_over_a_version : request_of (codes "putif 61 7 0=0a") ≡ Some (PutIf (97 ∷ []) ((0, 10 ∷ []) ∷ []) 7)
unfolding request_of put_if_of sets_of set_of decode_pairs
puts_over_a_version = refl

puts_over_none : command_of (codes "alone putif - 0 -") ≡ Some (Alone (PutIf [] [] 0))
unfolding command_of long_command_of alone_of request_of put_if_of sets_of
puts_over_none = refl

over_too_large_a_version : request_of (codes "putif 61 18446744073709551616 -") ≡ None
unfolding request_of put_if_of sets_of decode_pairs
over_too_large_a_version = refl

ranges : command_of (codes "begin 2 range 61 1000 2,0") ≡ Some (Once (Begin (record { 0 = 2 }) (Range (97 ∷ []) 1000 (2 ∷ 0 ∷ []))))
unfolding command_of long_command_of begin_of request_of range_of columns_of decode_pairs
ranges = refl

tidies : command_of (codes "begin 3 tidy 61") ≡ Some (Once (Begin (record { 0 = 3 }) (Tidy (97 ∷ []))))
unfolding command_of long_command_of begin_of request_of upkeep_of tidy_of decode_pairs
tidies = refl

builds_a_range : request_of (codes "build range - 62 equals 1 6a") ≡ Some (Build (RangeOf [] (Some (98 ∷ [])) (Equals 1 (106 ∷ []))))
unfolding request_of upkeep_of build_of spec_of keys_of end_of test_of column_test_of equals_of decode_pairs
builds_a_range = refl

builds_a_prefix : request_of (codes "build prefix 61 atleast 0 5") ≡ Some (Build (PrefixOf (97 ∷ []) (AtLeast 0 5)))
unfolding request_of upkeep_of build_of spec_of prefix_of test_of column_test_of at_least_of decode_pairs
builds_a_prefix = refl

endless : spec_of (codes "range 61 none any") ≡ Some (RangeOf (97 ∷ []) None Any)
unfolding spec_of keys_of end_of test_of decode_pairs
endless = refl

reads_a_view : command_of (codes "view 1 0 - 10") ≡ Some (Once (ViewRead (record { 0 = 1 }) 0 [] 10))
unfolding command_of long_command_of view_command_of view_read_of
reads_a_view = refl

alone : command_of (codes "alone remove 61") ≡ Some (Alone (Remove (97 ∷ [])))
unfolding command_of long_command_of alone_of request_of remove_of decode_pairs
alone = refl

counts_all : command_of (codes "len") ≡ Some Len
unfolding command_of
counts_all = refl

feeds : command_of (codes "feed 0 10") ≡ Some (Feed 0 10)
unfolding command_of long_command_of view_command_of feed_of
feeds = refl

counts : command_of (codes "count 61 none 10") ≡ Some (Read (Count (97 ∷ []) None 10))
unfolding command_of long_command_of view_command_of read_of count_of end_of decode_pairs
counts = refl

gets_two : command_of (codes "gets 61,- all") ≡ Some (Read (Gets ((97 ∷ []) ∷ [] ∷ []) []))
unfolding command_of long_command_of view_command_of read_of gets_of columns_of decode_pairs
gets_two = refl

advances : command_of (codes "advance") ≡ Some (Once Advance)
unfolding command_of
advances = refl

no_more_words : command_of (codes "advance 1") ≡ None
unfolding command_of long_command_of view_command_of read_of
no_more_words = refl

two_spaces : command_of (codes "step  7") ≡ None
unfolding command_of long_command_of step_of
two_spaces = refl

space_at_end : command_of (codes "step 7 ") ≡ None
unfolding command_of long_command_of step_of
space_at_end = refl

odd_hex : command_of (codes "begin 1 remove 616") ≡ None
unfolding command_of long_command_of begin_of request_of remove_of decode_pairs
odd_hex = refl

nothing : command_of [] ≡ None
unfolding command_of long_command_of
nothing = refl

an_empty_line_and_a_last_one : lines_of (codes "a" ++ 10 ∷ 10 ∷ codes "bc") ≡ codes "a" ∷ [] ∷ codes "bc" ∷ []
an_empty_line_and_a_last_one = refl

no_line_after_the_last_feed : lines_of (codes "a" ++ 10 ∷ []) ≡ codes "a" ∷ []
no_line_after_the_last_feed = refl

two_replies : output_of (Bad ∷ Came Moved ∷ []) ≡ codes "bad line" ++ 10 ∷ (codes "moved" ++ 10 ∷ [])
two_replies = refl

one_bad : bad_lines (Bad ∷ Came Moved ∷ []) ≡ 1
one_bad = refl
