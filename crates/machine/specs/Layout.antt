-- Where things stand in the lent memory: the only place that says so.
--
--   from   to
--   0      1055   33 frames of 16 cells, two words a cell
--   1056   1119   the callers, two words each: where one goes on, and where its temporaries begin
--   1120   1135   the eight windows, low and high
--   1136   1143   the eight numbers of the present setting
--   1144   1159   the eight pairs that the windows started as, low and high
--   1200   ..     tables that grow, fifteen words for each index k, from 1200 + 15 * k on:
--
--                 0   1  | 2   3   4  | 5   6  | 7       | 8   9  10  | 11        | 12   13   14
--                 temp k | node k     | its    | its     | test k     | outcome k | mark k
--                        |            | range  | number  |            |           |
--
-- A node's number is the one under the present setting. Marks are what checkpoints keep, one behind another: a pair of words and a number each. No table has more entries than steps were made, and the checkpoints of a path never have more marks than it may make steps, so that a memory of 1200 + 15 * n words is enough for n steps.
use Rattle.std.specs.Prelude.{ℕ, ◌+◌, ◌*◌}

-- ---- frames

-- the cells of a frame, the words of a cell, and those of a frame
abbrev pub frame_cells : ℕ
frame_cells = 16

abbrev pub cell_words : ℕ
cell_words = 2

abbrev pub frame_words : ℕ
frame_words = cell_words * frame_cells

-- frame d, the cell of its variable a, and the i-th cell of all frames
abbrev pub frame_place : ℕ → ℕ
frame_place d = frame_words * d

abbrev pub variable_place : ℕ → ℕ → ℕ
variable_place d a = frame_place d + cell_words * a

abbrev pub cell_place : ℕ → ℕ
cell_place i = cell_words * i

-- ---- callers, windows, setting, starting pairs

-- where caller d goes on, and where its temporaries begin
abbrev pub callers_place : ℕ
callers_place = 1056

abbrev pub caller_place : ℕ → ℕ
caller_place d = callers_place + 2 * d

abbrev pub caller_base : ℕ → ℕ
caller_base d = (callers_place + 1) + 2 * d

-- the two ends of window i
abbrev pub windows_place : ℕ
windows_place = 1120

abbrev pub window_low : ℕ → ℕ
window_low i = windows_place + 2 * i

abbrev pub window_high : ℕ → ℕ
window_high i = (windows_place + 1) + 2 * i

abbrev pub windows_end : ℕ
windows_end = windows_place + 16

-- number i of the setting
abbrev pub setting_place : ℕ
setting_place = 1136

abbrev pub value_place : ℕ → ℕ
value_place i = setting_place + i

abbrev pub setting_end : ℕ
setting_end = setting_place + 8

-- the pairs that the windows started as
abbrev pub starts_place : ℕ
starts_place = 1144

abbrev pub starts_end : ℕ
starts_end = starts_place + 16

-- ---- tables

abbrev pub tables_place : ℕ
tables_place = 1200

abbrev pub stride : ℕ
stride = 15

-- temporary k
abbrev pub temp_place : ℕ → ℕ
temp_place k = tables_place + stride * k

abbrev pub temp_end : ℕ → ℕ
temp_end k = (tables_place + 2) + stride * k

-- node j: its kind and the words of its two cells
abbrev pub node_place : ℕ → ℕ
node_place j = (tables_place + 2) + stride * j

abbrev pub node_left : ℕ → ℕ
node_left j = (tables_place + 3) + stride * j

abbrev pub node_right : ℕ → ℕ
node_right j = (tables_place + 4) + stride * j

abbrev pub node_end : ℕ → ℕ
node_end j = (tables_place + 5) + stride * j

-- the range of node j
abbrev pub range_low : ℕ → ℕ
range_low j = (tables_place + 5) + stride * j

abbrev pub range_high : ℕ → ℕ
range_high j = (tables_place + 6) + stride * j

abbrev pub range_end : ℕ → ℕ
range_end j = (tables_place + 7) + stride * j

-- the number of node j
abbrev pub number_place : ℕ → ℕ
number_place j = (tables_place + 7) + stride * j

-- test t: its kind and the words of its two cells
abbrev pub test_place : ℕ → ℕ
test_place t = (tables_place + 8) + stride * t

abbrev pub test_left : ℕ → ℕ
test_left t = (tables_place + 9) + stride * t

abbrev pub test_right : ℕ → ℕ
test_right t = (tables_place + 10) + stride * t

abbrev pub test_end : ℕ → ℕ
test_end t = (tables_place + 11) + stride * t

-- outcome i
abbrev pub outcome_place : ℕ → ℕ
outcome_place i = (tables_place + 11) + stride * i

abbrev pub outcome_end : ℕ → ℕ
outcome_end i = (tables_place + 12) + stride * i

-- mark k: a pair of words, and a number
abbrev pub mark_place : ℕ → ℕ
mark_place k = (tables_place + 12) + stride * k

abbrev pub mark_number : ℕ → ℕ
mark_number k = (tables_place + 14) + stride * k

-- where index k ends
abbrev pub index_end : ℕ → ℕ
index_end k = (tables_place + stride) + stride * k

-- how many words a memory has whose tables have room for n entries
abbrev pub words_for : ℕ → ℕ
words_for n = tables_place + stride * n
