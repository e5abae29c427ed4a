-- The three demands, proved of the definition. Each is stated in specs/44-Demands, but that the place of 27 is by the book alone; that, and what requests promise and leave as it was, in specs/46-Requests, of request 5 in specs/47-Indexed, of request 6 in specs/49-Duties, of request 7 in specs/71-Nights. Assumes nothing.
use Rattle.definition.proofs.CitedLists as cited
use Rattle.definition.proofs.DutyNumbers as numbers
use Rattle.definition.proofs.DutyPromises as duties
use Rattle.definition.proofs.IndexHolds as held
use Rattle.definition.proofs.IndexPromises as indexed
use Rattle.definition.proofs.OrderedLogs as ordered
use Rattle.definition.proofs.MisfitLaws as misfits
use Rattle.definition.proofs.NightFiles as files
use Rattle.definition.proofs.NightPairs as pairs
use Rattle.definition.proofs.NightPromises as nights
use Rattle.definition.proofs.NightTurns as turns
use Rattle.definition.proofs.NoneOwed as none
use Rattle.definition.proofs.OneNumber.{one_number}
use Rattle.definition.proofs.OwnNumbers as own
use Rattle.definition.proofs.StrayPlaces as strays
use Rattle.definition.proofs.PassesExactly as account
use Rattle.definition.proofs.Findings as order
use Rattle.definition.proofs.Refining as refining
use Rattle.definition.proofs.RefiningPlaces as places
use Rattle.definition.proofs.RefusalTable as table
use Rattle.definition.proofs.RoomLaws as room
use Rattle.definition.proofs.SizeColumns as sizes
use Rattle.definition.proofs.StruckFile as struck
use Rattle.definition.proofs.UnseenRows as unseen
use Rattle.definition.specs.44-Demands.{RefusalKeepsRoom, NoneOwedKeepsRoom, PassKeepsRest, FirstIsTold, RefusedByTable, StepIsPlace, PassesExactly, RefusedForRoom, NoneOwedExactly, PassLists, EachUseOnce, UnseenRowsAreUnseen, AsIfStruck, StrikesUnseen, OneMeaningOneNumber}
use Rattle.definition.specs.46-Requests.{NumbersAlone, FitsAsBefore, TellsStray, PlaceByBook, StraysAlone, TellsRefining, RefiningsAlone, HoldsWithoutLog, TellsSizes, SizeIsRows, SizesFit, SizesShowNoRow}
use Rattle.definition.specs.47-Indexed.{IndexHolds, ListIsSeen, UnseeingHasNone, IndexLength, EntriesFit, BuildingRefused, IndexBuilt, ThroughExactly, ThroughKeepsRoom, LaterNotRead, BuiltIsAsBuilt, BuiltIsEnough, StrikingKeepsIndex, ThroughShowsNoRow}
use Rattle.definition.specs.49-Duties.{RefusedUndone, RefusedNamedTwice, UnseenIsNotDone, DutiesAlone, KeptAsBefore, NoneDueKept, RefusedForLength, DutiesRead, RefusedBadDuty, RefusedBadAudit, DoneByNumbers, OldIsRefused}
use Rattle.definition.specs.71-Nights.{PairsRead, NumbersTold, RefusedForPair, PairKeepsAll, SoundExactly, FilesRead, ToldInTurn, FilesFit, RefusedStopsNone, ListsEndToEnd, LongRoomSuffices, LongRoomAlone, StrikesFile, NightShowsNoRow, AllStruckAlike}

pub record Demand1 : Type 0 where
  pub refusal_keeps_room : RefusalKeepsRoom
  pub none_owed_keeps_room : NoneOwedKeepsRoom
  pub pass_keeps_rest : PassKeepsRest
  pub first_is_told : FirstIsTold
  pub refused_by_table : RefusedByTable
  pub step_is_place : StepIsPlace

pub record Demand2 : Type 0 where
  pub passes_exactly : PassesExactly
  pub refused_for_room : RefusedForRoom
  pub none_owed_exactly : NoneOwedExactly
  pub pass_lists : PassLists
  pub each_use_once : EachUseOnce

pub record Demand3 : Type 0 where
  pub unseen_rows_are_unseen : UnseenRowsAreUnseen
  pub as_if_struck : AsIfStruck
  pub strikes_unseen : StrikesUnseen
  pub place_by_book : PlaceByBook
  pub sizes_show_no_row : SizesShowNoRow
  pub through_shows_no_row : ThroughShowsNoRow
  pub night_shows_no_row : NightShowsNoRow
  pub strikes_file : StrikesFile
  pub all_struck_alike : AllStruckAlike

pub record Request1 : Type 0 where
  pub numbers_alone : NumbersAlone
  pub fits_as_before : FitsAsBefore

pub record Request2 : Type 0 where
  pub tells_stray : TellsStray
  pub strays_alone : StraysAlone

pub record Request3 : Type 0 where
  pub holds_without_log : HoldsWithoutLog
  pub tells_refining : TellsRefining
  pub refinings_alone : RefiningsAlone

pub record Request4 : Type 0 where
  pub tells_sizes : TellsSizes
  pub size_is_rows : SizeIsRows
  pub sizes_fit : SizesFit

pub record Request5 : Type 0 where
  pub index_holds : IndexHolds
  pub list_is_seen : ListIsSeen
  pub unseeing_has_none : UnseeingHasNone
  pub index_length : IndexLength
  pub entries_fit : EntriesFit
  pub building_refused : BuildingRefused
  pub index_built : IndexBuilt
  pub through_exactly : ThroughExactly
  pub through_keeps_room : ThroughKeepsRoom
  pub later_not_read : LaterNotRead
  pub built_is_as_built : BuiltIsAsBuilt
  pub built_is_enough : BuiltIsEnough
  pub striking_keeps_index : StrikingKeepsIndex

pub record Request6 : Type 0 where
  pub refused_undone : RefusedUndone
  pub refused_named_twice : RefusedNamedTwice
  pub unseen_is_not_done : UnseenIsNotDone
  pub duties_alone : DutiesAlone
  pub kept_as_before : KeptAsBefore
  pub none_due_kept : NoneDueKept
  pub refused_for_length : RefusedForLength
  pub duties_read : DutiesRead
  pub refused_bad_duty : RefusedBadDuty
  pub refused_bad_audit : RefusedBadAudit
  pub done_by_numbers : DoneByNumbers
  pub old_is_refused : OldIsRefused

pub record Request7 : Type 0 where
  pub pairs_read : PairsRead
  pub numbers_told : NumbersTold
  pub refused_for_pair : RefusedForPair
  pub pair_keeps_all : PairKeepsAll
  pub sound_exactly : SoundExactly
  pub files_read : FilesRead
  pub told_in_turn : ToldInTurn
  pub files_fit : FilesFit
  pub refused_stops_none : RefusedStopsNone
  pub lists_end_to_end : ListsEndToEnd
  pub long_room_suffices : LongRoomSuffices
  pub long_room_alone : LongRoomAlone

pub demand_1 : Demand1
demand_1 =
    record {
      refusal_keeps_room = room.refusal_keeps_room;
      none_owed_keeps_room = room.none_owed_keeps_room;
      pass_keeps_rest = room.pass_keeps_rest;
      first_is_told = order.first_is_told;
      refused_by_table = table.refused_by_table;
      step_is_place = table.step_is_place;
    }

pub demand_2 : Demand2
demand_2 =
    record {
      passes_exactly = account.passes_exactly;
      refused_for_room = account.refused_for_room;
      none_owed_exactly = none.none_owed_exactly;
      pass_lists = cited.pass_lists;
      each_use_once = cited.each_use_once;
    }

pub demand_3 : Demand3
demand_3 =
    record {
      unseen_rows_are_unseen = unseen.unseen_rows_are_unseen;
      as_if_struck = unseen.as_if_struck;
      strikes_unseen = struck.strikes_unseen;
      place_by_book = strays.place_by_book;
      sizes_show_no_row = sizes.sizes_show_no_row;
      through_shows_no_row = indexed.through_shows_no_row;
      night_shows_no_row = nights.night_shows_no_row;
      strikes_file = nights.strikes_file;
      all_struck_alike = turns.all_struck_alike;
    }

pub one_meaning_one_number : OneMeaningOneNumber
one_meaning_one_number = one_number

pub request_1 : Request1
request_1 = record { numbers_alone = own.numbers_alone; fits_as_before = misfits.fit_checks_lem }

pub request_2 : Request2
request_2 = record { tells_stray = strays.tells_stray; strays_alone = own.strays_alone }

pub request_3 : Request3
request_3 = record { holds_without_log = refining.holds_without_log; tells_refining = places.tells_refining; refinings_alone = own.refinings_alone }

pub request_4 : Request4
request_4 = record { tells_sizes = sizes.tells_sizes; size_is_rows = sizes.size_is_rows; sizes_fit = sizes.sizes_fit }

pub request_5 : Request5
request_5 =
    record {
      index_holds = held.index_holds;
      list_is_seen = held.list_is_seen;
      unseeing_has_none = held.unseeing_has_none;
      index_length = ordered.index_entries;
      entries_fit = ordered.entries_fit;
      building_refused = indexed.building_refused;
      index_built = indexed.index_built;
      through_exactly = indexed.through_exactly;
      through_keeps_room = indexed.through_keeps_room;
      later_not_read = indexed.later_not_read;
      built_is_as_built = indexed.built_is_as_built;
      built_is_enough = indexed.built_is_enough;
      striking_keeps_index = indexed.index_struck;
    }

pub request_6 : Request6
request_6 =
    record {
      refused_undone = duties.refused_undone;
      refused_named_twice = duties.refused_named_twice;
      unseen_is_not_done = duties.unseen_is_not_done;
      duties_alone = duties.duties_alone;
      kept_as_before = duties.kept_as_before;
      none_due_kept = duties.none_due_kept;
      refused_for_length = numbers.refused_for_length;
      duties_read = numbers.duties_read;
      refused_bad_duty = numbers.refused_bad_duty;
      refused_bad_audit = numbers.refused_bad_audit;
      done_by_numbers = numbers.done_by_numbers;
      old_is_refused = duties.old_is_refused;
    }

pub request_7 : Request7
request_7 =
    record {
      pairs_read = pairs.pairs_read;
      numbers_told = nights.numbers_told;
      refused_for_pair = pairs.refused_for_pair;
      pair_keeps_all = pairs.pair_keeps_all;
      sound_exactly = pairs.sound_exactly;
      files_read = pairs.files_read;
      told_in_turn = files.told_in_turn;
      files_fit = pairs.files_fit;
      refused_stops_none = turns.refused_stops_none;
      lists_end_to_end = files.lists_end_to_end;
      long_room_suffices = nights.night_room_suffices;
      long_room_alone = nights.long_room_alone;
    }
