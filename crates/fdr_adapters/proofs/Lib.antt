mod TwinRests
