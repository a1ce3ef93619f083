-- A file apart from the standard streams.
use Rattle.std.specs.Prelude.{pos, ◌<ℤ◌}
use Rattle.std.specs.Fd.{file_raw_fd}
use Rattle.std.specs.declared.fs.File.{File}

-- The file's descriptor is none of the standard streams', which are 0, 1 and 2.
abbrev pub IsApart : File → Type 0
IsApart file = pos 2 <ℤ file_raw_fd file
