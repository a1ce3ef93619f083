-- The rows that the values of the program stand for.
use Rattle.fdr_table.specs.Rows.{FrameRow, ParamRow, PlaceRow}
use Rattle.fdr_table.specs.declared.frame.Frame.TheInside.{Inside as FrameInside}
use Rattle.fdr_table.specs.declared.param.Param.TheInside.{Inside as ParamInside}
use Rattle.fdr_table.specs.declared.place.Place.TheInside.{Inside as PlaceInside}

-- what the program's frame row stands for
abbrev pub frame_view : FrameInside → FrameRow
frame_view f = record { words = f.words; cword = f.cword; csub = f.csub }

-- what the program's parameter stands for
abbrev pub param_view : ParamInside → ParamRow
param_view p = record {
  name = p.name;
  bus = p.bus;
  label = p.label;
  sdi = p.sdi;
  lsb = p.lsb;
  width = p.width;
  signed = p.signed;
  num = p.num;
  den = p.den;
  offset = p.offset;
  decimals = p.decimals;
  rate = p.rate;
  age = p.age;
  tells = p.tells;
  row = p.row;
}

-- what the program's place stands for
abbrev pub place_view : PlaceInside → PlaceRow
place_view p = record {
  param = p.param;
  part = p.part;
  subs = p.subs;
  word = p.word;
  step = p.step;
  lsb = p.lsb;
  width = p.width;
  cycle = p.cycle;
  period = p.period;
  row = p.row;
}
